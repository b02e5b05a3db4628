use Rattle.std.proofs.Common.{◌≡◌, ◌++◌, OnOk, List, ℕ, sym, ap, ◌∙◌, subst, drop}
use Rattle.std.specs.Borrow.{Bor}
use Rattle.std.proofs.lemmas.List.{drop-map}
use Rattle.differences.specs.inner.Cuts.{texts, pair_of}
use Rattle.differences.specs.inner.LentBlocks.{all_seen}
use Rattle.differences.specs.EntryChanges.{Values, values_between, blocks_for}
use Rattle.differences.proofs.blocks.push_between.Goals as goal

pub returns : goal.returns
returns c =
    let types = c.args.conf.now.types in
    let after = texts c.args.after.now in
    let come : texts c.split_at.result.1.now ≡ drop c.in_ok-gone.kept after = ap texts c.split_at.ensures.back ∙ sym (drop-map (λ (v : Bor (List ℕ)). v.now) c.in_ok-gone.kept c.args.after.now) in
    let both : pair_of (texts c.as_slice.result.now) (texts c.split_at.result.1.now) ≡ values_between (texts c.args.before.now) after = (λ i. pair_of (ap texts c.as_slice.ensures.value i) (come i)) ∙ c.in_ok-gone.ensures.parts in
    subst (λ (p : Values × Values). OnOk c.push_for.result (all_seen c.push_for.new.blocks.items ≡ all_seen c.args.blocks.now.items ++ blocks_for types c.args.t.now after p.0 p.1)) both c.push_for.ensures
