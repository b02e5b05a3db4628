-- Lines of a configuration, with those that they go on on.
use Rattle.std.specs.Prelude.{ℕ, ◌+◌, Bool, false, ◌||◌, ◌==◌, List, [], ◌∷◌, ◌++◌, drop, if◌then◌else◌}
use Rattle.std.specs.List.{slice_split}
use Rattle.std.specs.Str.Lines.{strip_carriage_return}
use Rattle.base.specs.Ascii.{tab, line_feed, space}
use Rattle.definitions.specs.declared.lines.Line.{Line}
use Rattle.base.specs.Ends.{begins_with}

abbrev pub is_line_feed : ℕ → Bool
is_line_feed b = b == line_feed

-- numbered lines: all but what stands behind the last line feed lose a carriage return at their end
abbrev pub numbered : ℕ → List (List ℕ) → List Line
numbered n [] = []
numbered n (stretch ∷ []) = record { number = n; text = stretch } ∷ []
numbered n (stretch ∷ q ∷ qs) = record { number = n; text = strip_carriage_return stretch } ∷ numbered (n + 1) (q ∷ qs)

abbrev pub begins_blank : List ℕ → Bool
begins_blank text = begins_with space text || begins_with tab text

-- a line that begins with a space or tab continues the one before, unless that is empty
abbrev pub goes_on_with : List ℕ → List ℕ → Bool
goes_on_with [] next = false
goes_on_with (b ∷ bs) next = begins_blank next

-- the break between them counts as a space
abbrev pub joined : Line → List ℕ → Line
joined line next = record line { text = line.text ++ space ∷ drop 1 next }

abbrev pub onto : Line → List Line → List Line
onto line [] = line ∷ []
onto line (next ∷ lines) = if goes_on_with line.text next.text then joined line next.text ∷ lines else line ∷ next ∷ lines

unfoldable pub unfolded : List Line → List Line
unfolded [] = []
unfolded (line ∷ lines) = onto line (unfolded lines)

-- the lines of a text, each with the number of the first one that it stands on
unfoldable pub lines_of : List ℕ → List Line
lines_of text = unfolded (numbered 1 (slice_split is_line_feed text))
