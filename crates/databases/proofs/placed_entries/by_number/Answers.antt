use Rattle.std.proofs.Common.{List, map, sym, ap, subst, ◌∙◌, arith}
use Rattle.std.proofs.lemmas.Grind.{common_steps}
use Rattle.std.specs.List.Sorted.{IsPermutation}
use Rattle.std.proofs.lemmas.List.{take_all}
use Rattle.std.proofs.lemmas.List.Sorted.{IsPermutation-map}
use Rattle.index_keys.specs.declared.type_norms.Numbered.{Numbered}
use Rattle.databases.specs.declared.placed_entries.PlacedEntry.{PlacedEntry}
use Rattle.databases.proofs.placed_entries.by_number.Goals as goal

pub returns : goal.returns
returns c =
    let ranked : List PlacedEntry → List Numbered = λ es. map (λ e. e.ranked) es in
    let sorted : List PlacedEntry = c.sort_unstable_by_key.new.self in
    let past = c.loop-entry-test.false in
    subst (IsPermutation (ranked c.args.placed.now)) (ap ranked (sym (take_all c.loop-entry.entry-index sorted (omega (arith, past)))) ∙ sym c.loop-entry.invariant.so_far)
    (IsPermutation-map (λ (e : PlacedEntry). e.ranked) c.args.placed.now sorted c.sort_unstable_by_key.ensures.permutation)

pub loop-entry-preserved : goal.loop-entry-preserved
loop-entry-preserved c = grind (arith, common_steps)
