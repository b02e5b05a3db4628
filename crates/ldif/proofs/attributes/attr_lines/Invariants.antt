use Rattle.std.proofs.Common.{◌≡◌, ◌≤◌, ◌+◌, length}
use Rattle.std.specs.Vec.{vec_len, vec_capacity}
use Rattle.base.specs.Answers.{each}
use Rattle.ldif.specs.Reading.{attr_line}
use Rattle.base.proofs.Each.{with_front}
use Rattle.ldif.proofs.attributes.attr_lines.Given as goal

abbrev pub invariant-walk : goal.invariant-walk
invariant-walk l = record {
  read : with_front l.attrs.items (each (attr_line l.content) l.rest) ≡ each (attr_line l.content) l.fn.lines;
  room : vec_len l.attrs + length l.rest ≤ vec_capacity l.attrs;
}

abbrev pub decreases-walk : goal.decreases-walk
decreases-walk l = length l.rest
