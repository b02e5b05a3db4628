-- A text cut at each byte of a kind: lines at line feeds, words at spaces.
use Rattle.std.specs.Prelude.{ℕ, List, [], Option, Some, None}
use Rattle.std.specs.List.{slice_split}
use Rattle.std.specs.Borrow.{Bor}
use Rattle.memchr.specs.Find.{is_byte}

-- what stands between such bytes
abbrev pub parts : ℕ → List ℕ → List (List ℕ)
parts byte text = slice_split (is_byte byte) text

-- the same of a text that may not be there
abbrev pub parts_if : ℕ → Option (Bor (List ℕ)) → List (List ℕ)
parts_if byte None = []
parts_if byte (Some text) = parts byte text.now
