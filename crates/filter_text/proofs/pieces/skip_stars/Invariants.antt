use Rattle.std.proofs.Common.{◌≡◌, ◌≤◌, ◌++◌, List, ℕ, length}
use Rattle.filter_text.specs.Runs.{Run, is_star}
use Rattle.filter_text.proofs.pieces.skip_stars.Given as goal

abbrev pub invariant-loop-more : goal.invariant-loop-more
invariant-loop-more l = record {
  no_longer : length l.rest ≤ length l.fn.bytes;
  run : (s : List ℕ) × Run is_star s × (l.fn.bytes ≡ s ++ l.rest);
}

abbrev pub decreases-loop-more : goal.decreases-loop-more
decreases-loop-more l = length l.rest
