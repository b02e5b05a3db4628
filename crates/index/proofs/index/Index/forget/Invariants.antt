use Rattle.std.proofs.Common.{◌≡◌, nat_lt}
use Rattle.index_text.specs.Indexes.{members}
use Rattle.index.specs.Edits.{CountsEdits}
use Rattle.index.specs.Indexes.{Removes}
use Rattle.index.proofs.Edits.{Grows}
use Rattle.index.proofs.index.Index.forget.Given as goal

abbrev pub invariant-loop-place : goal.invariant-loop-place
invariant-loop-place l = record {
  same_conf : l.self.conf ≡ l.fn.self.conf;
  gone : Removes (λ p. nat_lt p.slot.0 l.place) l.number l.fn.self l.self;
  counted : CountsEdits l.fn.self l.self;
  fewer : Grows (members l.self) (members l.fn.self);
}
