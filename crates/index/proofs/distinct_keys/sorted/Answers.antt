use Rattle.index.proofs.Distinct.{gathers_more, gathers_all, keys_that}
use Rattle.index.proofs.distinct_keys.sorted.Goals as goal

pub loop-key-preserved : goal.loop-key-preserved
loop-key-preserved c = record { gathered = gathers_more (λ k. k.now) c.loop-key.all.items c.gather.new.keys.items c.in-Some.key.now c.loop-key.key-iterator c.next.new.self c.args.keys c.in_ok-most.ensures c.in-Some.ensures.steps c.loop-key.invariant.gathered }

pub returns : goal.returns
returns c = keys_that _ _ _ (gathers_all (λ k. k.now) c.loop-key.all.items c.loop-key.key-iterator c.args.keys c.in-None.ensures.steps.0 c.loop-key.invariant.gathered) c.tidy.ensures
