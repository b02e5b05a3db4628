use Rattle.std.proofs.Common.{◌≡◌, false, drop}
use Rattle.std.specs.Prelude.{T}
use Rattle.std.specs.FinMap as finite
use Rattle.std.specs.FinMap.Entries.{is_sorted}
use Rattle.paths.specs.Paths.{Path, path_cmp}
use Rattle.tree.specs.inner.Moves.{is_among, put_all}
use Rattle.tree.specs.inner.Trees.{numbers_of}
use Rattle.tree.proofs.moves.put_all.Given as goal

abbrev pub invariant-loop-path : goal.invariant-loop-path
invariant-loop-path l = record {
  sorted : T (is_sorted path_cmp l.numbers.entries);
  rest : put_all (numbers_of l.numbers.entries) (drop l.path-index l.entries) ≡ put_all (numbers_of l.fn.numbers.entries) l.entries;
  others : (q : Path) → is_among q l.entries ≡ false → (is_among q (drop l.path-index l.entries) ≡ false) × (finite.get (numbers_of l.numbers.entries) q ≡ finite.get (numbers_of l.fn.numbers.entries) q);
}
