use Rattle.std.proofs.Common.{◌≡◌, ◌+◌, take}
use Rattle.index_text.specs.SlotKeys.{is_among}
use Rattle.index_text.specs.Indexes.{members}
use Rattle.index.specs.Edits.{CountsEdits}
use Rattle.index.specs.Indexes.{Inserts}
use Rattle.index.proofs.Edits.{Grows}
use Rattle.index.proofs.index.Index.insert_all.Given as goal

abbrev pub invariant-loop-done : goal.invariant-loop-done
invariant-loop-done l = record {
  same_conf : l.self.conf ≡ l.fn.self.conf;
  came : Inserts (λ p. is_among p (take l.done l.keys)) l.number l.fn.self l.self;
  counted : CountsEdits l.fn.self l.self;
  more : Grows (members l.fn.self) (members l.self);
  edits : l.self.edits ≡ l.fn.self.edits + l.done;
}
