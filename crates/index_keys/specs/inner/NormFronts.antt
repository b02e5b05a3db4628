-- The first bytes of a text as numbers.
use Rattle.std.specs.Prelude.{ℕ, zero, suc, ◌+◌, ◌*◌, List, slice_index_or}

-- a number, and behind it so many bytes from a place on as digits; zeros stand for those that are missing
abbrev pub digits_from : ℕ → ℕ → ℕ → List ℕ → ℕ
digits_from number zero at bytes = number
digits_from number (suc count) at bytes = digits_from (number * 256 + slice_index_or bytes at 0) count (at + 1) bytes

-- eight bytes from a place on as one number
abbrev pub number_at : ℕ → List ℕ → ℕ
number_at at bytes = digits_from 0 8 at bytes
