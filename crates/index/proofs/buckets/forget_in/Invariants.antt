use Rattle.std.proofs.Common.{◌≡◌, ℕ, List, cond, nat_lt, get_or}
use Rattle.std.specs.FinMap as finite
use Rattle.std.specs.FinSet as set
use Rattle.index_text.specs.KeySets.{members_in}
use Rattle.index.specs.inner.Buckets.{AreBuckets}
use Rattle.index.proofs.buckets.forget_in.Given as goal

abbrev pub invariant-loop-bucket : goal.invariant-loop-bucket
invariant-loop-bucket l = record {
  buckets : AreBuckets l.sets;
  members : (place : ℕ) (key : List ℕ) → members_in (get_or l.sets place finite.empty) key ≡ cond (nat_lt place l.bucket-index) (set.remove (members_in (get_or l.fn.sets place finite.empty) key) l.number) (members_in (get_or l.fn.sets place finite.empty) key);
}
