use Rattle.std.proofs.Common.{refl, sym}
use Rattle.index.specs.inner.Buckets.{gathered}
use Rattle.index.proofs.Keyed.{puts_alike}
use Rattle.index.proofs.Gathered.{gathered_is}
use Rattle.index.proofs.buckets.Buckets.insert.Goals as goal

pub returns : goal.returns
returns c = puts_alike _ _ _ _ _ _ _ (λ q. sym (gathered_is c.self.inside.sets.items c.args.self.now c.self.view_is c.self.invariant q)) (λ q. sym (gathered_is c.put.new.sets.items (gathered c.put.new.sets.items) refl c.put.ensures.buckets q)) c.put.ensures.puts
