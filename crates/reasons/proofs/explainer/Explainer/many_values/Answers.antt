use Rattle.std.proofs.Common.{◌<◌, ℕ, length, sym, ap, subst, ◌∙◌}
use Rattle.entries.specs.StoredEntries.{EntryAttribute, IsMadeAttribute}
use Rattle.reasons.proofs.EntriesFound.{each_at, many_at, above_one, same_at}
use Rattle.reasons.proofs.explainer.Explainer.many_values.Goals as goal

pub returns-then-not-is_at_most_one-clause-some : goal.returns-then-not-is_at_most_one-clause-some
returns-then-not-is_at_most_one-clause-some c =
    let types = c.args.self.now.conf.now.types in
    let es = c.args.attrs.now in
    let i = c.loop-index.index in
    let d = c.index-attrs-index.result in
    let tested = c.index-attrs-index-then-single.result in
    let counted = c.index-attrs-index-then-not-is_at_most_one.result in
    let n = c.in_ok-count_of.field-0 in
    let lt = c.loop-index-test.true in
    let more = above_one c.is_at_most_one.result _ c.is_at_most_one.ensures c.if-not-is_at_most_one.true in
    record {
      type_known = (each_at (IsMadeAttribute types) es i d c.requires.each lt).known;
      one_at_most = sym c.single.ensures ∙ c.if-single.true;
      counted = many_at n es i d lt (ap (λ (a : EntryAttribute). length a.1) (same_at es i d counted lt) ∙ sym c.in_ok-count_of.ensures);
      more = subst (λ (k : ℕ). 1 < k) (ap (λ (a : EntryAttribute). length a.1) (same_at es i tested counted lt) ∙ sym c.in_ok-count_of.ensures) more;
    }
