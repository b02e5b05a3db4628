use Rattle.index.proofs.Distinct.{no_keys, among_none, among_more, among_all, keys_that}
use Rattle.index.proofs.distinct_keys.sorted_among.Goals as goal

pub returns-then-is_empty : goal.returns-then-is_empty
returns-then-is_empty c = no_keys (λ k. k.now) _ (among_none (λ k. k.now) c.args.keys c.args.others.now c.is_empty.result c.is_empty.ensures c.if-is_empty.true) c.new-found.result.items c.new-found.ensures.items

pub loop-key-preserved : goal.loop-key-preserved
loop-key-preserved c = record { gathered = among_more (λ k. k.now) c.args.others.now c.loop-key.found.items c.gather_among.new.keys.items c.in-Some.key.now c.loop-key.key-iterator c.next.new.self c.args.keys c.in_ok-most.ensures c.in-Some.ensures.steps c.loop-key.invariant.gathered }

pub returns : goal.returns
returns c = keys_that _ _ _ (among_all (λ k. k.now) c.args.others.now c.loop-key.found.items c.loop-key.key-iterator c.args.keys c.in-None.ensures.steps.0 c.loop-key.invariant.gathered) c.tidy.ensures
