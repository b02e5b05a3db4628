use Rattle.std.proofs.Common.{arith}
use Rattle.index.proofs.Keyed.{still_some}
use Rattle.index.proofs.Gathered.{got_within, got_past}
use Rattle.index.proofs.buckets.Buckets.get.Goals as goal

pub returns-then-place-len-clause-members : goal.returns-then-place-len-clause-members
returns-then-place-len-clause-members c = got_past c.self.inside.sets.items c.args.self.now _ _ c.self.view_is c.self.invariant c.bucket_of-place.ensures.bucket c.as_slice.ensures (omega arith)

pub returns-clause-members : goal.returns-clause-members
returns-clause-members c = got_within c.self.inside.sets.items c.args.self.now _ _ c.index-bucket.result.now c.get.result c.self.view_is c.self.invariant c.bucket_of-place.ensures.bucket c.as_slice.ensures (omega arith) c.index-bucket.ensures c.get.ensures.members

pub returns-clause-some : goal.returns-clause-some
returns-clause-some c = still_some _ _ c.get.result (λ s. s.now.members) _ _ c.get.ensures.members c.get.ensures.some
    (got_within c.self.inside.sets.items c.args.self.now _ _ c.index-bucket.result.now c.get.result c.self.view_is c.self.invariant c.bucket_of-place.ensures.bucket c.as_slice.ensures (omega arith) c.index-bucket.ensures c.get.ensures.members)
