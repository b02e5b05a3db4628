-- A value's normal form and the value as written, kept as one byte string.
use Rattle.std.specs.Prelude.{ℕ, ◌==◌, if◌then◌else◌, List, length, drop}

-- of bytes that begin with a normal form of this length, the value as written: what stands behind it, or the same bytes
-- where nothing does
abbrev pub raw_in : ℕ → List ℕ → List ℕ
raw_in norm_len bytes = if length bytes == norm_len then bytes else drop norm_len bytes
