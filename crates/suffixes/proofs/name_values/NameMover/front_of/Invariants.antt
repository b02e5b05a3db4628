use Rattle.std.proofs.Common.{◌≡◌, ◌≤◌, length}
use Rattle.suffixes.specs.MovedValues.{front_before, front_of}
use Rattle.suffixes.proofs.name_values.NameMover.front_of.Given as goal

abbrev pub invariant-loop-at : goal.invariant-loop-at
invariant-loop-at l = record {
  within : l.at ≤ length l.text;
  none : front_before l.self.conf.now l.text l.at ≡ front_of l.self.conf.now l.text;
}

abbrev pub decreases-loop-at : goal.decreases-loop-at
decreases-loop-at l = l.at
