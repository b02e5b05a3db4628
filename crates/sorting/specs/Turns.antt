-- In which order stanzas are printed, by their names: one comes behind all that are above it.
use Rattle.std.specs.Prelude.{ℕ, ◌+◌, max, Bool, false, List, [], ◌∷◌, length, Option, Some, None, if◌then◌else◌}
use Rattle.std.specs.BTreeSet.{insert_key}
use Rattle.std.specs.Ordering.{nat_cmp, ordering_then}
use Rattle.std.specs.Str.{bytes_eq}
use Rattle.std.specs.declared.cmp.Ordering.{Ordering}
use Rattle.sorting.specs.declared.normal_names.NormalName.{NormalName}
use Rattle.sorting.specs.declared.turns.Turn.{Turn}

-- the normal forms of the names above a name
abbrev pub names_above : Option NormalName → List (List ℕ)
names_above None = []
names_above (Some name) = name.above

-- how many RDNs a name has
abbrev pub depth : Option NormalName → ℕ
depth None = 0
depth (Some name) = length name.above + 1

-- ---- positions

abbrev pub is_named : List ℕ → Option NormalName → Bool
is_named text None = false
is_named text (Some name) = bytes_eq name.text text

-- the number of the last of these whose name has this normal form, or 0 where none has it; the first has number n
unfoldable pub last_from : ℕ → List (Option NormalName) → List ℕ → ℕ
last_from n [] text = 0
last_from n (name ∷ names) text = max (if is_named text name then n else 0) (last_from (n + 1) names text)

abbrev pub last_named : List (Option NormalName) → List ℕ → ℕ
last_named names text = last_from 0 names text

-- the greatest of a number and of those of the last stanzas with these names
abbrev pub greatest_last : List (Option NormalName) → ℕ → List (List ℕ) → ℕ
greatest_last names n [] = n
greatest_last names n (above ∷ more) = greatest_last names (max n (last_named names above)) more

-- where a stanza comes: where it stands, or where the last of those above it stands, which is there
abbrev pub position : List (Option NormalName) → ℕ → Option NormalName → ℕ
position names n name = greatest_last names n (names_above name)

-- ---- turns

abbrev pub turn_of : List (Option NormalName) → ℕ → Option NormalName → Turn
turn_of names n name = record { position = position names n name; depth = depth name; number = n }

-- the turn of each of these, the first of which has number n
unfoldable pub turns_from : List (Option NormalName) → ℕ → List (Option NormalName) → List Turn
turns_from names n [] = []
turns_from names n (name ∷ more) = turn_of names n name ∷ turns_from names (n + 1) more

-- by their positions; at one position those of fewer RDNs first, and of these the one that stands first
abbrev pub turn_cmp : Turn → Turn → Ordering
turn_cmp s t = ordering_then (nat_cmp s.position t.position) (ordering_then (nat_cmp s.depth t.depth) (nat_cmp s.number t.number))

-- with all of these, each at its position
unfoldable pub with_turns : List Turn → List Turn → List Turn
with_turns so_far [] = so_far
with_turns so_far (t ∷ ts) = with_turns (insert_key turn_cmp so_far t) ts

-- the turns of stanzas with these names, in order
unfoldable pub turns : List (Option NormalName) → List Turn
turns names = with_turns [] (turns_from names 0 names)
