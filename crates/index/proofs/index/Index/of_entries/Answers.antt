use Rattle.std.proofs.Common.{◌∙◌, List, length, get_or, ap, subst}
use Rattle.std.proofs.lemmas.Result.{IfOk-weaker}
use Rattle.std.specs.FinMap as finite
use Rattle.std.specs.FinSet as set
use Rattle.schema.specs.declared.slots.Slot.{Slot}
use Rattle.index_text.specs.KeySets.{SetsByKey, members_in}
use Rattle.index.specs.inner.SlotEntries.{AreSetsOf}
use Rattle.index.proofs.WholeEntries.{as_many, all_slots, whole_counted}
use Rattle.index.proofs.index.Index.of_entries.Goals as goal

pub of_sets-requires : goal.of_sets-requires
of_sets-requires c = as_many c.args.conf.now.types c.args.entries.now c.slots.result.now c.in_ok-sets.sets.items c.in_ok-sets.ensures.sets ∙ ap length c.slots.ensures

pub returns-clause-members : goal.returns-clause-members
returns-clause-members c =
    let conf = c.args.conf.now in
    let are = subst (λ (ss : List Slot). AreSetsOf conf.types c.args.entries.now ss c.in_ok-sets.sets.items) c.slots.ensures c.in_ok-sets.ensures.sets in
    IfOk-weaker c.of_sets.result _ _ (λ x is p n. ap (λ (slots : List SetsByKey). set.contains (members_in (get_or slots p.slot.0 finite.empty) p.key) n) is ∙ all_slots conf c.args.entries.now c.in_ok-sets.sets.items are p n) c.of_sets.ensures.slots

pub returns-clause-edits : goal.returns-clause-edits
returns-clause-edits c = whole_counted c.args.conf.now c.of_sets.result c.in_ok-sets.sets.items c.new-edits.result c.sets_of_slots.new.edits c.new-edits.ensures c.of_sets.ensures.slots c.of_sets.ensures.edits c.in_ok-sets.ensures.counted
