use Rattle.std.proofs.Common.{◌≡◌, ◌+◌, true, take}
use Rattle.std.specs.List.{AllByRecursion, IsDistinct}
use Rattle.std.specs.FinSet as set
use Rattle.index_text.specs.SlotKeys.{same_slot_key, is_among}
use Rattle.index_text.specs.Indexes.{members}
use Rattle.index.specs.Edits.{CountsEdits}
use Rattle.index.specs.Indexes.{Removes}
use Rattle.index.proofs.Edits.{Grows}
use Rattle.index.proofs.index.Index.remove_all.Given as goal

abbrev pub invariant-loop-key : goal.invariant-loop-key
invariant-loop-key l = record {
  same_conf : l.self.conf ≡ l.fn.self.conf;
  removed : Removes (λ p. is_among p (take l.key-index l.keys)) l.number l.fn.self l.self;
  counted : CountsEdits l.fn.self l.self;
  fewer : Grows (members l.self) (members l.fn.self);
  edits : IsDistinct same_slot_key l.keys → AllByRecursion (λ p. set.contains (members l.fn.self p) l.number ≡ true) l.keys → l.self.edits ≡ l.fn.self.edits + l.key-index;
}
