use Rattle.std.proofs.Common.{◌≤◌, ◌-◌, length, take}
use Rattle.filter_text.specs.Runs.{Run, is_name_byte}
use Rattle.filter_text.proofs.cursor.name_at.Given as goal

abbrev pub invariant-loop-len : goal.invariant-loop-len
invariant-loop-len l = record {
  within : l.len ≤ length l.bytes;
  run : Run is_name_byte (take l.len l.bytes);
}

abbrev pub decreases-loop-len : goal.decreases-loop-len
decreases-loop-len l = length l.bytes - l.len
