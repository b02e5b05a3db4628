use Rattle.std.proofs.Common.{take}
use Rattle.dir_conf.specs.inner.Passes.{AreFine}
use Rattle.dir_conf.proofs.explaining.second_pass.Given as goal

abbrev pub invariant-loop-line : goal.invariant-loop-line
invariant-loop-line l = AreFine l.types (take l.line-index l.lines) l.has_suffix
