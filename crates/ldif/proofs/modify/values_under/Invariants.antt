use Rattle.std.proofs.Common.{◌≡◌, ◌≤◌, ◌+◌, length}
use Rattle.std.specs.Vec.{vec_len, vec_capacity}
use Rattle.base.specs.Answers.{each}
use Rattle.ldif.specs.Reading.{value_under}
use Rattle.base.proofs.Each.{with_front}
use Rattle.ldif.proofs.modify.values_under.Given as goal

abbrev pub invariant-walk : goal.invariant-walk
invariant-walk l = record {
  read : with_front l.values.items (each (value_under l.attr) l.rest) ≡ each (value_under l.attr) l.fn.lines;
  room : vec_len l.values + length l.rest ≤ vec_capacity l.values;
}

abbrev pub decreases-walk : goal.decreases-walk
decreases-walk l = length l.rest
