-- Which of two values comes first under an ordering rule (RFC 4517, 4.2), by their normal forms.
use Rattle.std.specs.Prelude.{◌≡◌, ℕ, Bool, true, List, ◌<ℤ◌}
use Rattle.std.specs.Cmp.Lexicographic.{slice_cmp}
use Rattle.std.specs.Ordering.{is_lt, nat_cmp}
use Rattle.matching.specs.declared.family.Family.{Family}
use Rattle.matching.specs.declared.family.Family.TheVariants as families
use Rattle.matching.specs.Integers.{is_integer, value}

-- byte by byte, a beginning first
abbrev pub are_bytes_before : List ℕ → List ℕ → Bool
are_bytes_before a b = is_lt (slice_cmp nat_cmp a b)

abbrev pub BytesBefore : List ℕ → List ℕ → Type 0
BytesBefore a b = are_bytes_before a b ≡ true

-- as numbers
pub record NumberBefore (a b : List ℕ) : Type 0 where
  pub a_is_integer : is_integer a ≡ true
  pub b_is_integer : is_integer b ≡ true
  pub less : value a <ℤ value b

unfoldable pub Before : Family → List ℕ → List ℕ → Type 0
Before families.Integer a b = NumberBefore a b
Before families.Ignore a b = BytesBefore a b
Before families.Exact a b = BytesBefore a b
Before families.Numeric a b = BytesBefore a b
Before families.Telephone a b = BytesBefore a b
Before families.Boolean a b = BytesBefore a b
Before families.Octet a b = BytesBefore a b
Before families.Oid a b = BytesBefore a b
