-- What is still to come of the rows of buckets.
use Rattle.std.specs.Prelude.{List, ◌++◌}
use Rattle.std.specs.Slice.Iter.{iter_rest}
use Rattle.index_text.specs.KeySets.{Row}
use Rattle.index.specs.declared.buckets.BucketRows.{BucketRows}
use Rattle.index.specs.inner.Buckets.{in_hand, all_rows}

-- those left in the bucket in hand, and those of the buckets behind it
abbrev pub rows_left : BucketRows → List Row
rows_left rows = in_hand rows.current ++ all_rows (iter_rest rows.others)
