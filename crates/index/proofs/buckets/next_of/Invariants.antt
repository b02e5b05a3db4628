use Rattle.std.proofs.Common.{◌≡◌, ◌++◌, []}
use Rattle.std.specs.Slice.Iter.{iter_rest}
use Rattle.index.specs.inner.Buckets.{in_hand, all_rows}
use Rattle.index.proofs.buckets.next_of.Given as goal

abbrev pub invariant-loop-bucket : goal.invariant-loop-bucket
invariant-loop-bucket l = record {
  none : in_hand l.current ≡ [];
  rest : in_hand l.fn.current ++ all_rows (iter_rest l.fn.others) ≡ all_rows (iter_rest l.others);
}
