-- The bytes of a value while its octets are read, and how many of them stay where it ends there.
use Rattle.std.specs.Prelude.{ℕ, ◌+◌, ◌<◌, if◌then◌else◌, List, [], ◌∷◌, ◌++◌, length, Option, Some, None}
use Rattle.dn.specs.Reading.{State, Plain, Backslash, HalfPair}
use Rattle.dn.specs.Spelling.{Octet, is_raw_space}

-- spaces that stand raw stay only where another octet follows them
abbrev pub draft_after : List ℕ → ℕ → Option Octet → List ℕ × ℕ
draft_after bytes kept None = (bytes, kept)
draft_after bytes kept (Some o) = (bytes ++ o.byte ∷ [], if is_raw_space o then kept else length bytes + 1)

-- the first digit of a pair is one
abbrev pub IsInRange : State → Type 0
IsInRange Plain = Unit {0}
IsInRange Backslash = Unit {0}
IsInRange (HalfPair high) = high < 16
