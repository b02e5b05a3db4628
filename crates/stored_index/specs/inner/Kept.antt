-- The rows that are kept of those that were read.
use Rattle.std.specs.Prelude.{◌≡◌, ℕ, Bool, List, [], ◌∷◌, Option, Some, None, Result, if◌then◌else◌}
use Rattle.std.specs.List.{AllByRecursion, flat_map}
use Rattle.base.specs.Ascii.{space}
use Rattle.index_text.specs.KeySets as keys
use Rattle.index_text.specs.IndexTexts.{Row, Rows, key_text}
use Rattle.stored_index.specs.Cuts.{parts}
use Rattle.stored_index.specs.KeyLines.{row_of}
use Rattle.stored_index.specs.Rows.{IsByte}
use Rattle.stored_index.specs.Stored.{kept_row}
use Rattle.stored_index.specs.inner.Asked.{has_text}
use Rattle.stored_index.specs.inner.Reads.{Reads}
use Rattle.stored_index.specs.declared.asked.AskedTexts.{AskedTexts}
use Rattle.stored_index.specs.declared.fault.LineFault.{LineFault}
use Rattle.stored_index.specs.declared.fault.IndexFaultKind.{IndexFaultKind}
use Rattle.stored_index.specs.declared.key_lines.KeyLine.{KeyLine}

abbrev pub listed : Option keys.Row → List keys.Row
listed None = []
listed (Some row) = row ∷ []

-- where its key is asked for
abbrev pub kept_if : Bool → keys.Row → List keys.Row
kept_if asked row = if asked then row ∷ [] else []

-- of one row, of those of a slot, and of those of each slot
abbrev pub kept_one : AskedTexts → Row → List keys.Row
kept_one asked row = kept_if (has_text asked (key_text row.0)) (kept_row row)

abbrev pub kept_rows : AskedTexts → List Row → List keys.Row
kept_rows asked rows = flat_map (kept_one asked) rows

abbrev pub kept_slots : AskedTexts → Rows → List (List keys.Row)
kept_slots asked [] = []
kept_slots asked (s ∷ slots) = kept_rows asked s.1 ∷ kept_slots asked slots

-- ---- the line of a key

-- the last key before a line, as it is written; nothing where there is none
abbrev pub IsLast : Option (List ℕ) → List ℕ → Type 0
IsLast None word = word ≡ []
IsLast (Some key) word = (word ≡ key_text key) × AllByRecursion IsByte key

-- it is the line of this row
pub record IsLineOf (asked : AskedTexts) (row : Row) (line : KeyLine) : Type 0 where
  pub word : line.word.now ≡ key_text row.0
  pub bytes : AllByRecursion IsByte row.0
  pub kept : listed line.row ≡ kept_one asked row

-- behind that key it reads what is said of it
abbrev pub ReadsBehind : {X : Type 0} → (Row → X → Type 0) → List ℕ → Result X LineFault → (Option (List ℕ) → Result Row IndexFaultKind) → Type 0
ReadsBehind Keeps last_word result said = (before : Option (List ℕ)) → IsLast before last_word → Reads Keeps result (said before)

-- the row of this word, with the ranks of the words behind it
abbrev pub row_of_words : ℕ → List ℕ → List ℕ → Option (List ℕ) → Result Row IndexFaultKind
row_of_words entries word words before = row_of before entries (word ∷ parts space words)
