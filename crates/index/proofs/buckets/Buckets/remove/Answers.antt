use Rattle.std.proofs.Common.{refl, sym}
use Rattle.index.specs.inner.Buckets.{gathered}
use Rattle.index.proofs.Keyed.{takes_alike}
use Rattle.index.proofs.Gathered.{gathered_is}
use Rattle.index.proofs.buckets.Buckets.remove.Goals as goal

pub returns : goal.returns
returns c = takes_alike _ _ _ _ _ _ _ (λ q. sym (gathered_is c.self.inside.sets.items c.args.self.now c.self.view_is c.self.invariant q)) (λ q. sym (gathered_is c.take.new.sets.items (gathered c.take.new.sets.items) refl c.take.ensures.buckets q)) c.take.ensures.takes
