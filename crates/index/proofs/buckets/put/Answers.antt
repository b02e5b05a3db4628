use Rattle.std.proofs.Common.{arith}
use Rattle.index.proofs.Gathered.{put_at}
use Rattle.index.proofs.buckets.put.Goals as goal

pub returns-clause-buckets : goal.returns-clause-buckets
returns-clause-buckets c = (put_at c.args.sets.now.items c.grow.new.sets.items _ c.args.number c.bucket_of-place.result c.index_mut-bucket.result.now c.insert-result.new.self c.requires c.grow.ensures.same c.bucket_of-place.ensures.bucket c.as_slice.ensures (let long = c.in_ok-grow.ensures.long in omega (arith, long)) c.index_mut-bucket.ensures.value c.is_full.ensures c.insert-result.result c.insert-result.ensures).0

pub returns-clause-puts : goal.returns-clause-puts
returns-clause-puts c = (put_at c.args.sets.now.items c.grow.new.sets.items _ c.args.number c.bucket_of-place.result c.index_mut-bucket.result.now c.insert-result.new.self c.requires c.grow.ensures.same c.bucket_of-place.ensures.bucket c.as_slice.ensures (let long = c.in_ok-grow.ensures.long in omega (arith, long)) c.index_mut-bucket.ensures.value c.is_full.ensures c.insert-result.result c.insert-result.ensures).1
