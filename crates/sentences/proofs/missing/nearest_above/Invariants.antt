use Rattle.std.proofs.Common.{◌≡◌, ℕ, ◌+◌, ◌-◌, ◌<◌, ◌≤◌, false, length, take}
use Rattle.std.specs.FinMap as finite
use Rattle.sentences.proofs.missing.nearest_above.Given as goal

abbrev pub invariant-up : goal.invariant-up
invariant-up l = record {
  begins : l.above ≡ take (length l.path - (l._step + 1)) l.path;
  missing : (k : ℕ) → length l.path - l._step ≤ k → k < length l.path → finite.contains_key l.tree.entries (take k l.path) ≡ false;
}
