use Rattle.std.proofs.Common.{◌≡◌, ◌+◌, ◌-◌, ◌*◌, ◌^◌, ◌<◌}
use Rattle.ldif_lines.specs.Reader.{source_of, unread}
use Rattle.ldif_lines.specs.inner.Moves.{Moved, PulledLate}
use Rattle.ldif_lines.specs.inner.ReaderStates.{state, Searched}
use Rattle.ldif_lines.proofs.reader.Reader+S.find.Given as goal

abbrev pub invariant-loop-self : goal.invariant-loop-self
invariant-loop-self g l = record {
  moved : Moved (g.S.Source.seen (source_of l.fn.self)) (g.S.Source.seen (source_of l.self)) (unread l.fn.self) (unread l.self) (state l.fn.self) (state l.self);
  searched : Searched g.S.Source.seen l.fn.self l.self;
  at_end : l.self.at_end ≡ l.fn.self.at_end;
  late : PulledLate (source_of l.fn.self) (source_of l.self) (unread l.fn.self) (unread l.self) (state l.fn.self) (state l.self);
  fits : (g.S.Source.seen (source_of l.fn.self)).pulled < (g.S.Source.seen (source_of l.self)).pulled → (g.S.Source.seen (source_of l.self)).pulled < 2 ^ 64;
}

abbrev pub decreases-loop-self : goal.decreases-loop-self
decreases-loop-self g l = 2 * (2 ^ 64 - (g.S.Source.seen (source_of l.self)).pulled) + (l.self.end - l.self.at)
