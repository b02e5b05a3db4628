use Rattle.std.specs.Map.Iter.{deref}
use Rattle.index.proofs.Fronts.{drop_next, step}
use Rattle.index.proofs.norm_fronts.norms_behind.Goals as goal

pub loop-preserved : goal.loop-preserved
loop-preserved c = record { passed = drop_next c.loop.counter _ c.loop.norms c.next.new.self c.loop.invariant.passed (step deref c.loop.norms c.next.new.self c.next.result c.next.ensures.steps) }
