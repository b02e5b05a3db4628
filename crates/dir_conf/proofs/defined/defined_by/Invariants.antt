use Rattle.std.proofs.Common.{◌≡◌, drop}
use Rattle.dir_conf.specs.Configurations.{built_in, defined_by}
use Rattle.dir_conf.specs.inner.Views.{defined_view}
use Rattle.dir_conf.proofs.defined.defined_by.Given as goal

abbrev pub invariant-loop-line : goal.invariant-loop-line
invariant-loop-line l = defined_by (defined_view l.known) (drop l.line-index l.lines) ≡ defined_by built_in l.lines
