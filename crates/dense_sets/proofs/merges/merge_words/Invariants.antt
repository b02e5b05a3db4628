use Rattle.std.proofs.Common.{◌+◌, ◌-◌, ◌≡◌, ◌≤◌, ◌<◌, ℕ, slice_index}
use Rattle.dense_sets.proofs.merges.merge_words.Given as goal

abbrev pub invariant-loop-at : goal.invariant-loop-at
invariant-loop-at g l =
    record {
      within : l.at ≤ l.len;
      done : (k : ℕ) → k < l.at → slice_index l.words k ≡ g.M.Merge.merged (slice_index l.initial.words k) (slice_index l.other k);
      left : (k : ℕ) → l.at ≤ k → slice_index l.words k ≡ slice_index l.initial.words k;
    }

abbrev pub decreases-loop-at : goal.decreases-loop-at
decreases-loop-at g l = l.len + 1 - l.at

abbrev pub invariant-loop-at-2 : goal.invariant-loop-at-2
invariant-loop-at-2 g l =
    record {
      within : l.at ≤ l.len;
      done : (k : ℕ) → k < l.at → slice_index l.words k ≡ g.M.Merge.merged (slice_index l.fn.words k) (slice_index l.other k);
      left : (k : ℕ) → l.at ≤ k → slice_index l.words k ≡ slice_index l.fn.words k;
    }

abbrev pub decreases-loop-at-2 : goal.decreases-loop-at-2
decreases-loop-at-2 g l = l.len - l.at
