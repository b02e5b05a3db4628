use Rattle.std.proofs.Common.{◌≡◌, ◌||◌, ◌-◌, false, drop, get_or}
use Rattle.base.specs.Ends.{is_space}
use Rattle.matching.specs.inner.Gaps.{has_wide_gap_after}
use Rattle.matching.proofs.wide_gaps.has_wide_gap_in.Given as goal

abbrev pub invariant-loop-i : goal.invariant-loop-i
invariant-loop-i l = (l.found || has_wide_gap_after (is_space (get_or l.run (l.i - 1) 0)) (drop l.i l.run)) ≡ has_wide_gap_after false l.run
