use Rattle.std.proofs.Common.{take}
use Rattle.std.specs.Prelude.{IfSome}
use Rattle.index_keys.specs.TypeNorms.{AreNormsOf}
use Rattle.std.specs.FinSet as set
use Rattle.index_text.specs.SlotKeys.{same_slot_key}
use Rattle.index.specs.Edits.{CountsEach}
use Rattle.index.specs.inner.SlotEntries.{AreSetsOf, members_of}
use Rattle.index.proofs.whole_entries.sets_of_slots.Given as goal

abbrev pub invariant-loop-slot : goal.invariant-loop-slot
invariant-loop-slot l = record {
  so_far : AreSetsOf l.conf.types l.entries (take l.slot-index l.slots) l.all.items;
  counted : CountsEach same_slot_key (λ p. set.empty) (members_of l.all.items) l.fn.edits l.edits;
  kept : IfSome l.kept (λ k. AreNormsOf l.conf.types l.entries k.type_id k.norms.items);
}
