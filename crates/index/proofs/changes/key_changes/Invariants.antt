use Rattle.index.specs.KeyChanges.{content_in}
use Rattle.index.specs.inner.KeyLists.{AreSlotKeys}
use Rattle.index.specs.inner.SlotTests.{has_only}
use Rattle.index.proofs.changes.key_changes.Given as goal

abbrev pub invariant-loop-place : goal.invariant-loop-place
invariant-loop-place l = record {
  came : AreSlotKeys l.place (has_only l.conf (content_in l.after) (content_in l.before)) l.found.came.items;
  gone : AreSlotKeys l.place (has_only l.conf (content_in l.before) (content_in l.after)) l.found.gone.items;
}
