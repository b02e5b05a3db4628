use Rattle.std.proofs.Common.{◌≡◌, take, Ok}
use Rattle.dir_conf.specs.Configurations.{built_in, defined_by}
use Rattle.dir_conf.specs.inner.Views.{defined_view}
use Rattle.dir_conf.proofs.explaining.first_pass.Given as goal

abbrev pub invariant-loop-line : goal.invariant-loop-line
invariant-loop-line l = defined_by built_in (take l.line-index l.lines) ≡ Ok (defined_view l.known)
