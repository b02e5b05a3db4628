use Rattle.std.proofs.Common.{List, get_or, sym, ap, ◌∙◌, arith}
use Rattle.std.specs.FinMap as finite
use Rattle.index_text.specs.KeySets.{SetsByKey, members_in}
use Rattle.index_text.specs.SlotKeys.{slot_key}
use Rattle.index_text.specs.Indexes.{Index, members}
use Rattle.index.proofs.Keyed.{none_in}
use Rattle.index.proofs.index.IndexPostings.lookup.Goals as goal

pub returns-in-None-clause-members : goal.returns-in-None-clause-members
returns-in-None-clause-members c =
    let slot = c.args.slot.0 in
    let key = c.args.key.now in
    ap (λ (x : Index). members x (slot_key slot key)) (sym c.self.view_is)
    ∙ ap (λ (ss : List SetsByKey). members_in (get_or ss slot finite.empty) key) (sym c.deref.ensures.value)
    ∙ ap (λ (s : SetsByKey). members_in s key) (sym (c.in-None.ensures.lookup.4 (omega arith) finite.empty))
    ∙ none_in key
