-- Numbers that are put in and taken out one by one, as an entry moves with those below it.
use Rattle.std.specs.Prelude.{ℕ, Bool, List, [], ◌∷◌, is_some}
use Rattle.std.specs.FinMap as finite
use Rattle.paths.specs.Paths.{Path, path_cmp}
use Rattle.tree.specs.Trees.{Numbers}

-- whether one of them is at this path
abbrev pub is_among : Path → List (Path × ℕ) → Bool
is_among q es = is_some (finite.find path_cmp q es)

abbrev pub put_all : Numbers → List (Path × ℕ) → Numbers
put_all m [] = m
put_all m (e ∷ es) = put_all (finite.insert m e.0 e.1) es

abbrev pub without_all : Numbers → List (Path × ℕ) → Numbers
without_all m [] = m
without_all m (e ∷ es) = without_all (finite.remove m e.0) es
