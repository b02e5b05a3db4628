-- The front of a text behind some of its lines.
use Rattle.std.specs.Prelude.{◌≡◌, ℕ, Bool, List, ◌++◌}
use Rattle.sorting.specs.Stanzas.{ended_lines}
use Rattle.sorting.specs.Heads.{front_of, front}
use Rattle.sorting.specs.declared.heads.Stage.{Stage}

-- these lines were taken, and the front goes on in the rest
pub record IsSoFar (text : List ℕ) (stage : Stage) (first : Bool) (rest : List ℕ) : Type 0 where
  pub taken : List ℕ
  pub parts : text ≡ taken ++ rest
  pub front : front text ≡ taken ++ front_of stage first (ended_lines rest)
