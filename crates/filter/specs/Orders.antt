-- The order of normal forms as a test (RFC 4517, 4.2).
use Rattle.std.specs.Prelude.{ℕ, Bool, ◌&&◌, List, int_lt}
use Rattle.matching.specs.Integers.{is_integer, value}
use Rattle.matching.specs.Orders.{are_bytes_before}
use Rattle.matching.specs.declared.family.Family.{Family}
use Rattle.matching.specs.declared.family.Family.TheVariants as families

-- whole numbers as numbers, all else byte by byte
abbrev pub comes_before : Family → List ℕ → List ℕ → Bool
comes_before families.Integer a b = is_integer a && (is_integer b && int_lt (value a) (value b))
comes_before families.Ignore a b = are_bytes_before a b
comes_before families.Exact a b = are_bytes_before a b
comes_before families.Numeric a b = are_bytes_before a b
comes_before families.Telephone a b = are_bytes_before a b
comes_before families.Boolean a b = are_bytes_before a b
comes_before families.Octet a b = are_bytes_before a b
comes_before families.Oid a b = are_bytes_before a b
