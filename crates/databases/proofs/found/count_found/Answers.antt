use Rattle.std.proofs.Common.{◌≡◌, ℕ, ◌+◌, List, [], ◌∷◌, length, Option, Some, sym, ap, ◌∙◌}
use Rattle.databases.specs.Walks.{Lent}
use Rattle.databases.specs.Found.{up_to, goes_past}
use Rattle.databases.proofs.FoundText.{past_more, some_left, counts_more, counts_nothing}
use Rattle.databases.proofs.found.count_found.Goals as goal

pub loop-preserved : goal.loop-preserved
loop-preserved g c =
    let left : Option ℕ = c.loop.left in
    let old : List Lent = c.loop.iterator'.to_come in
    let new : List Lent = c.next.new.self.to_come in
    let found : Lent = record { tested = c.next.new.self.tested; path = c.in-Some.field-0.0.now; entry = c.in-Some.field-0.1.now } in
    let steps : old ≡ found ∷ new = c.in-Some.ensures.steps.lends in
    let some = some_left left (sym c.is_used_up.ensures ∙ c.if-is_used_up.false) in
    record {
      entries = counts_more left c.one_fewer-left.result found old new c.loop.entries steps some c.one_fewer-left.ensures ∙ c.loop.invariant.entries;
      past = ap (λ (l : Option ℕ). goes_past l new) c.one_fewer-left.ensures ∙ sym (past_more left found new some) ∙ ap (goes_past left) (sym steps) ∙ c.loop.invariant.past;
      few = c.loop.invariant.few;
    }

pub returns-clause-entries : goal.returns-clause-entries
returns-clause-entries g c = counts_nothing c.loop.left c.loop.iterator'.to_come c.loop.entries c.in-None.ensures.steps.lends.0 ∙ c.loop.invariant.entries
