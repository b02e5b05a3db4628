-- The records of an LDIF text, each as its lines (RFC 2849, "Formal Syntax Definition of LDIF" and notes 2, 5 and 6).
-- std's `lines` cuts a text behind each line feed: the line feed and one carriage return before it are no part of a line,
-- and what stands behind the last line feed is a line where it is not empty.
-- The lines between empty ones are a block. In it a line that begins with a space continues the line before it,
-- and the lines that then begin with `#` are comments, and go with all that continues them.
-- As a block's first line, one that begins with a space stays as it is. A block with a line left is a record.
use Rattle.std.specs.Prelude.{◌≡◌, slice_get, ℕ, Bool, true, false, not, List, [], ◌∷◌, ◌++◌, map, filter, length, drop, ◌==◌, Option, Some, None, if◌then◌else◌}
use Rattle.std.specs.List.{slice_split, enumerate_from, filter_map}
use Rattle.std.specs.Str.Lines.{lines, strip_carriage_return}
use Rattle.base.specs.Ascii.{line_feed, space, number_sign}
use Rattle.base.specs.Ends.{begins_with}

-- a record: the number of its first line that is no comment, whether it is the text's first record, its lines, and the number of each
pub record RawRecord : Type 0 where
  pub line : ℕ
  pub first : Bool
  pub lines : List (List ℕ)
  pub numbers : List ℕ

-- each of its lines has a number, and that of the first is the record's
pub record IsNumbered (r : RawRecord) : Type 0 where
  pub each : length r.numbers ≡ length r.lines
  pub first : slice_get r.numbers 0 ≡ Some r.line

-- a record without whether it is the text's first
pub record Body : Type 0 where
  pub line : ℕ
  pub lines : List (List ℕ)
  pub numbers : List ℕ

-- Below, a line is the number that it has in its text, and its bytes.
abbrev pub is_blank : ℕ × List ℕ → Bool
is_blank line = length line.1 == 0

abbrev pub continues : ℕ × List ℕ → Bool
continues line = begins_with space line.1

abbrev pub is_kept : ℕ × List ℕ → Bool
is_kept line = not (begins_with number_sign line.1)

abbrev pub number_of : ℕ × List ℕ → ℕ
number_of line = line.0

abbrev pub bytes_of : ℕ × List ℕ → List ℕ
bytes_of line = line.1

-- what the lines at the front that begin with a space add to the line before them
unfoldable pub continuation : List (ℕ × List ℕ) → List ℕ
continuation [] = []
continuation (l ∷ ls) = if continues l then drop 1 l.1 ++ continuation ls else []

-- each line that does not begin with a space, with what continues it, by the number of its first line
unfoldable pub joined : List (ℕ × List ℕ) → List (ℕ × List ℕ)
joined [] = []
joined (l ∷ ls) = if continues l then joined ls else (l.0, l.1 ++ continuation ls) ∷ joined ls

-- the same for a whole block, whose first line stays however it begins
unfoldable pub joined_block : List (ℕ × List ℕ) → List (ℕ × List ℕ)
joined_block [] = []
joined_block (l ∷ ls) = (l.0, l.1 ++ continuation ls) ∷ joined ls

unfoldable pub body_of : List (ℕ × List ℕ) → Option Body
body_of [] = None
body_of (l ∷ ls) = Some (record { line = l.0; lines = l.1 ∷ map bytes_of ls; numbers = l.0 ∷ map number_of ls })

-- the record of a block, where a line is left of it
unfoldable pub body_of_block : List (ℕ × List ℕ) → Option Body
body_of_block block = body_of (filter is_kept (joined_block block))

unfoldable pub with_first : Bool → List Body → List RawRecord
with_first first [] = []
with_first first (b ∷ bs) = record { line = b.line; first = first; lines = b.lines; numbers = b.numbers } ∷ with_first false bs

-- the records of a text whose first line has this number
unfoldable pub records_from : Bool → ℕ → List ℕ → List RawRecord
records_from first number text = with_first first (filter_map body_of_block (slice_split is_blank (enumerate_from number (lines text))))

-- the records of a text
abbrev pub records : List ℕ → List RawRecord
records text = records_from true 1 text

-- all but the last
unfoldable pub but_last : {A : Type 0} → List A → List A
but_last [] = []
but_last (x ∷ []) = []
but_last (x ∷ y ∷ xs) = x ∷ but_last (y ∷ xs)

-- the lines that have their end
unfoldable pub whole_lines : List ℕ → List (List ℕ)
whole_lines text = map strip_carriage_return (but_last (slice_split (λ b. b == line_feed) text))

-- the records whose closing empty line stands in the text
unfoldable pub closed_from : Bool → ℕ → List ℕ → List RawRecord
closed_from first number text = with_first first (filter_map body_of_block (but_last (slice_split is_blank (enumerate_from number (whole_lines text)))))

-- those of a text from its beginning
abbrev pub closed_records : List ℕ → List RawRecord
closed_records text = closed_from true 1 text
