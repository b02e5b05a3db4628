use Rattle.std.proofs.Common.{◌≤◌, ◌<◌, ◌^◌, ◌-◌, length}
use Rattle.stored_index.proofs.NumberCuts.{AreDigits}
use Rattle.stored_index.proofs.numbers.digits.Given as goal

abbrev pub invariant-loop-at : goal.invariant-loop-at
invariant-loop-at l = record {
  few : l.at ≤ 10;
  fits : l.at ≤ length l.text;
  digits : AreDigits l.text l.at l.number;
  small : l.number < 10 ^ l.at;
}

abbrev pub decreases-loop-at : goal.decreases-loop-at
decreases-loop-at l = length l.text - l.at
