use Rattle.std.proofs.Common.{sym, subst}
use Rattle.index.specs.inner.Buckets.{AreBuckets}
use Rattle.index.proofs.Gathered.{no_buckets}
use Rattle.index.proofs.buckets.Buckets.new.Goals as goal

pub invariant_of-result : goal.invariant_of-result
invariant_of-result c = subst AreBuckets (sym c.new.ensures.items) no_buckets
