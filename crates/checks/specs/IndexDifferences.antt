-- Where the text of an index first differs from the one that is due: which slot that is in, and of which key.
use Rattle.std.specs.Prelude.{ℕ, Bool, true, false, ◌||◌, ◌==◌, List, [], ◌∷◌, ◌++◌, nat_eq, nat_lt, if◌then◌else◌, Option, Some, None, codes}
use Rattle.std.specs.List.{slice_split, starts_with}
use Rattle.std.specs.Str.{bytes_eq}
use Rattle.definitions.specs.Words.{first_word}
use Rattle.definitions.specs.Lines.{is_line_feed}

-- as `slot cn eq`
abbrev pub begins_slot : List ℕ → Bool
begins_slot line = starts_with nat_eq line (codes "slot ")

-- the slot that the next line is in
abbrev pub slot_behind : List ℕ → List ℕ → List ℕ
slot_behind slot line = if begins_slot line then line else slot

-- the key of a line, where it is one of keys
abbrev pub key_on : List ℕ → Option (List ℕ)
key_on line = if begins_slot line || (bytes_eq line (codes "end") || bytes_eq [] line) then None else Some (first_word line)

-- byte by byte, a beginning first
abbrev pub first_is_less : List ℕ → List ℕ → Bool
first_is_less xs [] = false
first_is_less [] (y ∷ ys) = true
first_is_less (x ∷ xs) (y ∷ ys) = nat_lt x y

unfoldable pub is_before : List ℕ → List ℕ → Bool
is_before [] ys = first_is_less [] ys
is_before (x ∷ xs) [] = first_is_less (x ∷ xs) []
is_before (x ∷ xs) (y ∷ ys) = if x == y then is_before xs ys else first_is_less (x ∷ xs) (y ∷ ys)

-- keys stand in the order of their bytes
abbrev pub first_key : Option (List ℕ) → Option (List ℕ) → Option (List ℕ)
first_key None other = other
first_key (Some k) None = Some k
first_key (Some k) (Some l) = if is_before l k then Some l else Some k

abbrev pub key_text : Option (List ℕ) → List ℕ
key_text None = []
key_text (Some key) = codes ", key " ++ key

-- as `slot cn eq, key 626f62`
abbrev pub slot_and_key : List ℕ → List ℕ → List ℕ → List ℕ
slot_and_key slot one other = slot ++ key_text (first_key (key_on one) (key_on other))

abbrev pub first_line : List (List ℕ) → List ℕ
first_line [] = []
first_line (l ∷ ls) = l

-- The first of these lines in which two texts differ: the slot that it is in, behind this one, and the first of the keys on both lines. So under that
-- key the entries differ, or it stands in one text alone.
unfoldable pub first_difference : List ℕ → List (List ℕ) → List (List ℕ) → List ℕ
first_difference slot [] ls = slot_and_key slot [] (first_line ls)
first_difference slot (k ∷ ks) [] = slot_and_key slot k []
first_difference slot (k ∷ ks) (l ∷ ls) = if bytes_eq k l then first_difference (slot_behind slot k) ks ls else slot_and_key slot k l

-- of two texts; on their first line there is no slot
abbrev pub difference_of : List ℕ → List ℕ → List ℕ
difference_of text other = first_difference [] (slice_split is_line_feed text) (slice_split is_line_feed other)
