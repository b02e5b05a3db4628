use Rattle.std.proofs.Common.{◌≡◌, drop}
use Rattle.std.specs.Prelude.{T}
use Rattle.std.specs.FinMap.Entries.{is_sorted}
use Rattle.paths.specs.Paths.{path_cmp}
use Rattle.tree.specs.inner.Moves.{without_all}
use Rattle.tree.specs.inner.Trees.{numbers_of}
use Rattle.tree.proofs.moves.remove_all.Given as goal

abbrev pub invariant-loop-path : goal.invariant-loop-path
invariant-loop-path l = record {
  sorted : T (is_sorted path_cmp l.numbers.entries);
  rest : without_all (numbers_of l.numbers.entries) (drop l.path-index l.entries) ≡ without_all (numbers_of l.fn.numbers.entries) l.entries;
}
