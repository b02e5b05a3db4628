-- Lines of a configuration, with those that they go on on.
use Rattle.std.specs.Prelude.{ℕ, Bool, false, List, [], ◌∷◌, ◌++◌, if◌then◌else◌}
use Rattle.definitions.specs.declared.lines.Line.{Line}
use Rattle.definitions.specs.Lines.{goes_on_with, joined}

abbrev pub last_goes_on : List Line → List ℕ → Bool
last_goes_on [] next = false
last_goes_on (line ∷ []) next = goes_on_with line.text next
last_goes_on (line ∷ other ∷ lines) next = last_goes_on (other ∷ lines) next

abbrev pub join_last : List Line → List ℕ → List Line
join_last [] next = []
join_last (line ∷ []) next = joined line next ∷ []
join_last (line ∷ other ∷ lines) next = line ∷ join_last (other ∷ lines) next

-- one more line behind others
abbrev pub with_line : List Line → Line → List Line
with_line lines next = if last_goes_on lines next.text then join_last lines next.text else lines ++ next ∷ []
