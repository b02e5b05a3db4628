use Rattle.std.proofs.Common.{refl, arith}
use Rattle.index.proofs.Gathered.{take_past, take_at}
use Rattle.index.proofs.buckets.take.Goals as goal

pub returns-then-place-len-clause-takes : goal.returns-then-place-len-clause-takes
returns-then-place-len-clause-takes c = take_past c.args.sets.now.items _ c.args.number _ c.bucket_of-place.ensures.bucket c.as_slice.ensures (omega arith)

pub returns-clause-buckets : goal.returns-clause-buckets
returns-clause-buckets c = (take_at c.args.sets.now.items c.args.sets.now.items _ c.args.number c.bucket_of-place.result c.index_mut-bucket.result.now c.remove-was.new.self c.requires (λ i. refl) c.bucket_of-place.ensures.bucket c.as_slice.ensures (omega arith) c.index_mut-bucket.ensures.value c.is_full.ensures c.remove-was.result c.remove-was.ensures).0

pub returns-clause-takes : goal.returns-clause-takes
returns-clause-takes c = (take_at c.args.sets.now.items c.args.sets.now.items _ c.args.number c.bucket_of-place.result c.index_mut-bucket.result.now c.remove-was.new.self c.requires (λ i. refl) c.bucket_of-place.ensures.bucket c.as_slice.ensures (omega arith) c.index_mut-bucket.ensures.value c.is_full.ensures c.remove-was.result c.remove-was.ensures).1
