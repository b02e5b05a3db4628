-- How lines are written: folded to at most so many bytes (RFC 2849, note 2), each record with an empty line behind it.
use Rattle.std.specs.Prelude.{◌≡◌, ℕ, zero, suc, ◌-◌, ◌≤◌, Bool, true, false, not, ◌&&◌, ◌==◌, List, [], ◌∷◌, ◌++◌, length}
use Rattle.std.specs.List.{flat_map, list_all, AllByRecursion}
use Rattle.base.specs.Ascii.{line_feed, carriage_return, space, number_sign}
use Rattle.base.specs.Ends.{begins_with}
use Rattle.ldif_lines.specs.Records.{RawRecord}

-- a line that is folded to a width, with room for so many bytes before the first fold: each further piece is a space and at most width - 1 bytes
unfoldable pub folded_to : ℕ → ℕ → List ℕ → List ℕ
folded_to width room [] = line_feed ∷ []
folded_to width zero (b ∷ bs) = line_feed ∷ space ∷ b ∷ folded_to width (width - 2) bs
folded_to width (suc room) (b ∷ bs) = b ∷ folded_to width room bs

-- a whole line: at most width bytes, and the further pieces
abbrev pub folded_line : ℕ → List ℕ → List ℕ
folded_line width line = folded_to width width line

abbrev pub written_block_to : ℕ → List (List ℕ) → List ℕ
written_block_to width block = flat_map (folded_line width) block ++ line_feed ∷ []

abbrev pub written_blocks_to : ℕ → List (List (List ℕ)) → List ℕ
written_blocks_to width blocks = flat_map (written_block_to width) blocks

-- a space and a byte fit into each further piece
abbrev pub IsWidth : ℕ → Type 0
IsWidth width = 2 ≤ width

-- it fits into a line of this width
abbrev pub FitsIn : ℕ → List ℕ → Type 0
FitsIn width line = length line ≤ width

-- ---- to the width that is taken where none is asked for

abbrev pub standard_width : ℕ
standard_width = 76

abbrev pub folded : ℕ → List ℕ → List ℕ
folded = folded_to standard_width

abbrev pub written_block : List (List ℕ) → List ℕ
written_block = written_block_to standard_width

abbrev pub written_blocks : List (List (List ℕ)) → List ℕ
written_blocks = written_blocks_to standard_width

-- ---- lines that can be written

-- what may stand within a line: neither a line feed nor a carriage return
abbrev pub is_line_byte : ℕ → Bool
is_line_byte b = not (b == line_feed) && not (b == carriage_return)

-- there is a first byte, and it makes the line neither a continuation nor a comment
abbrev pub begins_line : List ℕ → Bool
begins_line [] = false
begins_line (b ∷ bs) = not (b == space) && not (b == number_sign)

-- a line that can be written
pub record IsWritable (line : List ℕ) : Type 0 where
  pub begins : begins_line line ≡ true
  pub bytes : list_all is_line_byte line ≡ true

-- the lines of one record: at least one
abbrev pub AreWritable : List (List ℕ) → Type 0
AreWritable [] = ⊥
AreWritable (l ∷ ls) = AllByRecursion IsWritable (l ∷ ls)

-- ---- with a comment in front of each record

-- a comment that can be written (RFC 2849, note 5)
pub record IsComment (line : List ℕ) : Type 0 where
  pub begins : begins_with number_sign line ≡ true
  pub bytes : list_all is_line_byte line ≡ true

pub record CommentedBlock : Type 0 where
  pub comment : List ℕ
  pub lines : List (List ℕ)

abbrev pub record_lines : CommentedBlock → List (List ℕ)
record_lines b = b.lines

abbrev pub all_lines_of : CommentedBlock → List (List ℕ)
all_lines_of b = b.comment ∷ b.lines

abbrev pub written_commented : CommentedBlock → List ℕ
written_commented b = written_block (all_lines_of b)

pub record IsWritableComment (b : CommentedBlock) : Type 0 where
  pub comment : IsComment b.comment
  pub lines : AreWritable b.lines

-- ---- what is read of them: records up to the numbers of their lines

abbrev pub raw_lines : RawRecord → List (List ℕ)
raw_lines r = r.lines

abbrev pub raw_block : RawRecord → Bool × List (List ℕ)
raw_block r = (r.first, r.lines)

-- the first of these blocks is the text's first record, and no other is
unfoldable pub with_first_flag : Bool → List (List (List ℕ)) → List (Bool × List (List ℕ))
with_first_flag first [] = []
with_first_flag first (b ∷ bs) = (first, b) ∷ with_first_flag false bs
