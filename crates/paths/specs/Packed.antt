-- A path as one byte string, whose order byte by byte is the order of paths. The codes of types and values hold no byte below
-- 2, so that 1 can end a value and 0 a step: what ends comes before what goes on.
use Rattle.std.specs.Prelude.{◌≡◌, ℕ, ◌+◌, ◌-◌, ◌*◌, ◌/◌, ◌%◌, Bool, true, false, nat_lt, ◌==◌, if◌then◌else◌, List, [], ◌∷◌, ◌++◌, map}
use Rattle.std.specs.List.{flat_map, onto_first}
use Rattle.paths.specs.Paths.{Pair, RdnKey, Path}

-- a byte of a value: itself, but two bytes for 0, 1 and 2
unfoldable pub byte_code : ℕ → List ℕ
byte_code b = if nat_lt b 3 then 2 ∷ (b + 2) ∷ [] else b ∷ []

unfoldable pub value_code : List ℕ → List ℕ
value_code v = flat_map byte_code v ++ 1 ∷ []

-- three digits, each from 2 on
unfoldable pub type_code : ℕ → List ℕ
type_code t = (t / 254 / 254 + 2) ∷ (t / 254 % 254 + 2) ∷ (t % 254 + 2) ∷ []

unfoldable pub pair_code : Pair → List ℕ
pair_code p = type_code p.0 ++ value_code p.1

unfoldable pub step_code : RdnKey → List ℕ
step_code s = flat_map pair_code s ++ 0 ∷ []

unfoldable pub pack : Path → List ℕ
pack p = flat_map step_code p

-- ---- and back

-- what stands before each z
unfoldable pub parts : ℕ → List ℕ → List (List ℕ)
parts z [] = []
parts z (b ∷ bs) = if b == z then [] ∷ parts z bs else onto_first b (parts z bs)

-- the value whose bytes have these codes; whether the first stands behind a 2
unfoldable pub value_of : Bool → List ℕ → List ℕ
value_of behind [] = []
value_of true (b ∷ bs) = (b - 2) ∷ value_of false bs
value_of false (b ∷ bs) = if b == 2 then value_of true bs else b ∷ value_of false bs

unfoldable pub pair_of : List ℕ → Pair
pair_of [] = (0, [])
pair_of (a ∷ []) = (0, [])
pair_of (a ∷ b ∷ []) = (0, [])
pair_of (a ∷ b ∷ c ∷ bs) = (((a - 2) * 254 + (b - 2)) * 254 + (c - 2), value_of false bs)

unfoldable pub pairs_of : List ℕ → RdnKey
pairs_of bs = map pair_of (parts 1 bs)

unfoldable pub unpack : List ℕ → Path
unpack bs = map pairs_of (parts 0 bs)

-- what holds of the bytes of a path
abbrev pub IsPacked : List ℕ → Type 0
IsPacked bs = pack (unpack bs) ≡ bs
