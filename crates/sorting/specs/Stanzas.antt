-- How an LDIF text is cut into stanzas: each is a record with what stands before it (RFC 2849, "Formal Syntax Definition of LDIF", notes 2 and 5).
-- Here a line has its end, CR LF or LF; the text's last one may have none.
use Rattle.std.specs.Prelude.{ℕ, Bool, true, false, not, ◌&&◌, ◌||◌, ◌==◌, if◌then◌else◌, List, [], ◌∷◌, ◌++◌}
use Rattle.std.specs.List.{onto_first}
use Rattle.std.specs.Str.{bytes_eq}
use Rattle.base.specs.Ascii.{line_feed, carriage_return, space, number_sign}
use Rattle.base.specs.Ends.{begins_with}
use Rattle.sorting.specs.declared.stanzas.Begun.{Begun}

-- ---- lines

-- the lines of a text
unfoldable pub ended_lines : List ℕ → List (List ℕ)
ended_lines [] = []
ended_lines (b ∷ bs) = if b == line_feed then (line_feed ∷ []) ∷ ended_lines bs else onto_first b (ended_lines bs)

abbrev pub is_empty : List ℕ → Bool
is_empty line = bytes_eq line (line_feed ∷ []) || bytes_eq line (carriage_return ∷ line_feed ∷ [])

-- A line of a record: neither empty nor a comment, and no continuation of the line before it. As the first of its block one that begins with a space
-- is a line, too.
abbrev pub is_kept : Bool → List ℕ → Bool
is_kept first line = not (is_empty line) && not (begins_with number_sign line) && (first || not (begins_with space line))

-- ---- stanzas

abbrev pub unbegun : Begun
unbegun = record { has_record = false; at_block = true }

abbrev pub behind : Begun → List ℕ → Begun
behind begun line = record { has_record = begun.has_record || is_kept begun.at_block line; at_block = is_empty line }

-- a stanza ends with the first empty line behind a line of a record
abbrev pub ends_stanza : Begun → List ℕ → Bool
ends_stanza begun line = begun.has_record && is_empty line

abbrev pub before_first : List ℕ → List (List ℕ) → List (List ℕ)
before_first text [] = text ∷ []
before_first text (stanza ∷ stanzas) = (text ++ stanza) ∷ stanzas

-- the stanzas of these lines, the first of which was begun
unfoldable pub stanzas_from : Begun → List (List ℕ) → List (List ℕ)
stanzas_from begun [] = []
stanzas_from begun (line ∷ lines) =
    if ends_stanza begun line then line ∷ stanzas_from unbegun lines else before_first line (stanzas_from (behind begun line) lines)

-- the stanzas of a text
abbrev pub stanzas : List ℕ → List (List ℕ)
stanzas text = stanzas_from unbegun (ended_lines text)
