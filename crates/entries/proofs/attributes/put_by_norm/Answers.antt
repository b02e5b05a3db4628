use Rattle.std.proofs.Common.{◌∙◌, sym, subst, ap, cond, true, List, ℕ}
use Rattle.std.specs.BTreeSet.{contains}
use Rattle.std.specs.Ordering.{is_eq}
use Rattle.paths.specs.Paths.{pair_cmp}
use Rattle.entries.specs.inner.StoredEntries.{AreNormsOf}
use Rattle.entries.proofs.NormLemmas.{norms_pushed}
use Rattle.entries.proofs.attributes.put_by_norm.Goals as goal

pub returns-clause-norms : goal.returns-clause-norms
returns-clause-norms c =
    subst (AreNormsOf c.insert.new.self) (sym c.in_ok-push.ensures.ok) (norms_pushed c.args.norms.now c.insert.new.self c.args.attrs.now.entries c.args.t c.args.value c.requires
    (λ q. c.in_ok-insert.ensures.updates.0 q ∙ ap (λ (n : List ℕ). cond (is_eq (pair_cmp (c.args.t, n) q)) true (contains pair_cmp c.args.norms.now q)) (c.in_ok-from_slice.ensures ∙ c.norm.ensures)))
