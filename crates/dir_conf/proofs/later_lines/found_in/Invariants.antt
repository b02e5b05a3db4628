use Rattle.std.proofs.Common.{◌≡◌, drop}
use Rattle.dir_conf.specs.Configurations.{none_found, found_in}
use Rattle.dir_conf.specs.inner.Views.{found_view}
use Rattle.dir_conf.proofs.later_lines.found_in.Given as goal

abbrev pub invariant-loop-line : goal.invariant-loop-line
invariant-loop-line l = found_in l.types (found_view l.found) (drop l.line-index l.lines) ≡ found_in l.types none_found l.lines
