use Rattle.std.proofs.Common.{◌≤◌, ◌-◌, length, take}
use Rattle.filter_text.specs.Runs.{Run, is_plain}
use Rattle.filter_text.proofs.cursor.to_parenthesis.Given as goal

abbrev pub invariant-loop-len : goal.invariant-loop-len
invariant-loop-len l = record {
  within : l.len ≤ length l.bytes;
  run : Run is_plain (take l.len l.bytes);
}

abbrev pub decreases-loop-len : goal.decreases-loop-len
decreases-loop-len l = length l.bytes - l.len
