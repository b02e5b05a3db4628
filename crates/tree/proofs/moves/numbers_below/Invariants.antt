use Rattle.std.proofs.Common.{◌≡◌, ◌++◌}
use Rattle.std.specs.Prelude.{filter, take_while}
use Rattle.paths.specs.Paths.{begins}
use Rattle.tree.proofs.moves.numbers_below.Given as goal

abbrev pub invariant-loop-path : goal.invariant-loop-path
invariant-loop-path l = l.found.items ++ take_while (λ e. begins l.base e.0) l.path-iterator ≡ filter (λ e. begins l.base e.0) l.numbers.entries
