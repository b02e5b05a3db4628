-- Names that are meant where another one stands: they differ by one letter.
use Rattle.std.specs.Prelude.{ℕ, Bool, ◌||◌, List, [], ◌∷◌, drop, Option, Some, None, if◌then◌else◌}
use Rattle.std.specs.List.{list_any}
use Rattle.std.specs.Str.{bytes_eq, str_eq_ignore_ascii_case}

-- OIDs are compared byte by byte
abbrev pub is_among : List (List ℕ) → List ℕ → Bool
is_among known oid = list_any (λ k. bytes_eq oid k) known

-- names are compared without ASCII case (RFC 4512, 1.4)
abbrev pub is_one_of : List (List ℕ) → List ℕ → Bool
is_one_of known name = list_any (λ k. str_eq_ignore_ascii_case name k) known

abbrev pub is_same_letter : ℕ → ℕ → Bool
is_same_letter b c = str_eq_ignore_ascii_case (b ∷ []) (c ∷ [])

-- whether two texts are the same without their first byte, or without that of one of them
abbrev pub differ_in_first : List ℕ → List ℕ → Bool
differ_in_first xs ys = str_eq_ignore_ascii_case (drop 1 xs) (drop 1 ys) || (str_eq_ignore_ascii_case (drop 1 xs) ys || str_eq_ignore_ascii_case xs (drop 1 ys))

-- whether they differ so behind the letters that both begin with: one letter is replaced, left out or too many
unfoldable pub are_near : List ℕ → List ℕ → Bool
are_near [] ys = differ_in_first [] ys
are_near (x ∷ xs) [] = differ_in_first (x ∷ xs) []
are_near (x ∷ xs) (y ∷ ys) = if is_same_letter x y then are_near xs ys else differ_in_first (x ∷ xs) (y ∷ ys)

-- the first of these that is near
unfoldable pub nearest : List (List ℕ) → List ℕ → Option (List ℕ)
nearest [] name = None
nearest (k ∷ ks) name = if are_near k name then Some k else nearest ks name
