-- An LDIF text with its records so ordered that each comes behind those above it.
use Rattle.std.specs.Prelude.{ℕ, nat_eq, Bool, not, ◌==◌, ◌&&◌, ◌||◌, if◌then◌else◌, List, [], ◌∷◌, ◌++◌, map, drop, length, Option, slice_index_or}
use Rattle.std.specs.List.{ends_with}
use Rattle.base.specs.Ascii.{line_feed, carriage_return, space}
use Rattle.base.specs.Ends.{begins_with}
use Rattle.sorting.specs.Stanzas.{stanzas}
use Rattle.sorting.specs.Heads.{head}
use Rattle.sorting.specs.NormalNames.{name_of_stanza}
use Rattle.sorting.specs.Turns.{turns}
use Rattle.sorting.specs.declared.normal_names.NormalName.{NormalName}
use Rattle.sorting.specs.declared.turns.Turn.{Turn}

abbrev pub ends_in : List ℕ → List ℕ → Bool
ends_in text end = ends_with nat_eq text end

-- what a stanza lacks of the empty line at its end; behind a CR at the end of the text CR LF ends the line, to which that CR belongs
unfoldable pub lacking : List ℕ → List ℕ
lacking stanza =
    if ends_in stanza (line_feed ∷ line_feed ∷ []) || ends_in stanza (line_feed ∷ carriage_return ∷ line_feed ∷ []) then []
    else if ends_in stanza (line_feed ∷ []) then line_feed ∷ []
    else if ends_in stanza (carriage_return ∷ []) then carriage_return ∷ line_feed ∷ line_feed ∷ []
    else line_feed ∷ line_feed ∷ []

-- a stanza with these behind it: it has an empty line at its end where there are any
abbrev pub before : List (List ℕ) → List ℕ → List ℕ
before [] stanza = stanza
before (next_stanza ∷ more) stanza = stanza ++ lacking stanza

-- stanzas one behind the other
unfoldable pub joined : List (List ℕ) → List ℕ
joined [] = []
joined (stanza ∷ more) = before more stanza ++ joined more

-- what comes between the head of a text and these: a line that begins with a space would go on with the version, so an empty line stands before it
abbrev pub gap : List ℕ → List (List ℕ) → List ℕ
gap head [] = []
gap head (stanza ∷ more) = if not (length head == 0) && begins_with space stanza then lacking head else []

-- the text of a head and these stanzas
abbrev pub put_behind : List ℕ → List (List ℕ) → List ℕ
put_behind head ps = head ++ gap head ps ++ joined ps

-- what stands behind the head of a text
abbrev pub body : List ℕ → List ℕ
body text = drop (length (head text)) text

abbrev pub names_of : List (List ℕ) → List (Option NormalName)
names_of ps = map name_of_stanza ps

abbrev pub in_turn : List (List ℕ) → List Turn → List (List ℕ)
in_turn ps ts = map (λ (t : Turn). slice_index_or ps t.number []) ts

abbrev pub sorted_stanzas : List (List ℕ) → List (List ℕ)
sorted_stanzas ps = in_turn ps (turns (names_of ps))

unfoldable pub sorted_text : List ℕ → List ℕ
sorted_text text = put_behind (head text) (sorted_stanzas (stanzas (body text)))
