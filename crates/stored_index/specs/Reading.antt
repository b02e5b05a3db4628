-- What the text of an index is read as: its rows, or what is wrong with the first line that has a fault.
use Rattle.std.specs.Prelude.{ℕ, ◌==◌, ◌&&◌, ◌||◌, Bool, true, false, if◌then◌else◌, List, [], ◌∷◌, length, Option, Some, None, Result, Ok, Err, codes}
use Rattle.std.specs.List.{list_all, starts_with}
use Rattle.std.specs.Str.{bytes_eq}
use Rattle.std.specs.Prelude.{nat_eq}
use Rattle.base.specs.Answers.{◌>>=◌}
use Rattle.base.specs.Ascii.{space, line_feed}
use Rattle.hex.specs.Hex.{encode_lower}
use Rattle.values.specs.declared.types.AttributeType.{AttributeType}
use Rattle.schema.specs.Conf.{Conf}
use Rattle.schema.specs.declared.slots.Slot.{Slot}
use Rattle.index_text.specs.IndexTexts.{Row, Rows, end_line}
use Rattle.stored_index.specs.Cuts.{parts}
use Rattle.stored_index.specs.Words.{is_hex_byte, number_in}
use Rattle.stored_index.specs.KeyLines.{row_in}
use Rattle.stored_index.specs.SlotLines.{slot_in, is_slot, fault_at}
use Rattle.stored_index.specs.declared.fault.IndexFaultKind.{IndexFaultKind}
use Rattle.stored_index.specs.declared.fault.IndexFaultKind.TheVariants.{Header, Stale, Form}

-- ---- the first line

-- how many entries there were, and the stamp of the dump that a text was written for, as digits
pub record HeaderContent : Type 0 where
  pub entries : ℕ
  pub stamp : List ℕ

-- 32 bytes in hexadecimal
abbrev pub is_stamp : List ℕ → Bool
is_stamp word = (length word == 64) && list_all is_hex_byte word

abbrev pub has_header_form : List ℕ → List ℕ → List ℕ → Bool
has_header_form name version stamp = bytes_eq name (codes "slapindex") && (bytes_eq version (codes "1") && is_stamp stamp)

abbrev pub header_with : List ℕ → Result ℕ IndexFaultKind → Result HeaderContent IndexFaultKind
header_with stamp (Ok count) = Ok (record { entries = count; stamp = stamp })
header_with stamp (Err fault) = Err Header

abbrev pub header_of : List (List ℕ) → Result HeaderContent IndexFaultKind
header_of [] = Err Header
header_of (name ∷ []) = Err Header
header_of (name ∷ version ∷ []) = Err Header
header_of (name ∷ version ∷ count ∷ []) = Err Header
header_of (name ∷ version ∷ count ∷ stamp ∷ []) = if has_header_form name version stamp then header_with stamp (number_in count) else Err Header
header_of (name ∷ version ∷ count ∷ stamp ∷ more ∷ others) = Err Header

unfoldable pub header_in : List ℕ → Result HeaderContent IndexFaultKind
header_in line = header_of (parts space line)

abbrev pub is_current : ℕ → List ℕ → HeaderContent → Bool
is_current entries stamp header = (header.entries == entries) && bytes_eq header.stamp (encode_lower stamp)

abbrev pub if_current : ℕ → List ℕ → HeaderContent → Result (Unit {0}) IndexFaultKind
if_current entries stamp header = if is_current entries stamp header then Ok tt else Err Stale

abbrev pub current_header : ℕ → List ℕ → List ℕ → Result (Unit {0}) IndexFaultKind
current_header entries stamp line = header_in line >>= if_current entries stamp

-- ---- the others

-- the line of a slot, and the last line, end the rows of the slot before
abbrev pub ends_rows : List ℕ → Bool
ends_rows line = bytes_eq line end_line || starts_with nat_eq line (codes "slot ")

-- The rows that lines begin with, behind a row with this key, and the lines behind them. A line counts as one only where an LF ends it, so that another
-- part of the text follows.
unfoldable pub rows_of : Option (List ℕ) → ℕ → List (List ℕ) → Result (List Row × List (List ℕ)) IndexFaultKind
rows_of before entries [] = Ok ([], [])
rows_of before entries (line ∷ []) = Ok ([], line ∷ [])
rows_of before entries (line ∷ next ∷ more) = if ends_rows line then Ok ([], line ∷ next ∷ more)
    else (row_in before entries line >>= λ row. rows_of (Some row.0) entries (next ∷ more) >>= λ found. Ok (row ∷ found.0, found.1))

abbrev pub is_nothing : List ℕ → List (List ℕ) → Bool
is_nothing [] [] = true
is_nothing [] (line ∷ more) = false
is_nothing (b ∷ bs) more = false

-- the last line: nothing stands behind its LF
abbrev pub end_of : List AttributeType → Option Slot → List (List ℕ) → Result (Unit {0}) IndexFaultKind
end_of types before [] = Err Form
end_of types before (line ∷ []) = Err Form
end_of types before (line ∷ next ∷ more) = if bytes_eq line end_line && is_nothing next more then Ok tt else Err (fault_at types before line)

-- the line of a slot that is due, and its rows
abbrev pub slot_rows : List AttributeType → ℕ → Option Slot → Slot → List (List ℕ) → Result (List Row × List (List ℕ)) IndexFaultKind
slot_rows types entries before due [] = Err Form
slot_rows types entries before due (line ∷ []) = Err Form
slot_rows types entries before due (line ∷ next ∷ more) = if is_slot due (slot_in types line) then rows_of None entries (next ∷ more) else Err (fault_at types before line)

-- these slots, one after the other, and the end
unfoldable pub slots_of : List AttributeType → ℕ → Option Slot → List Slot → List (List ℕ) → Result Rows IndexFaultKind
slots_of types entries before [] lines = end_of types before lines >>= λ _. Ok []
slots_of types entries before (s ∷ due) lines = slot_rows types entries before s lines >>= λ found. slots_of types entries (Some s) due found.1 >>= λ rest. Ok ((s, found.0) ∷ rest)

abbrev pub lines_in : Conf → ℕ → List ℕ → List (List ℕ) → Result Rows IndexFaultKind
lines_in conf entries stamp [] = Err Header
lines_in conf entries stamp (line ∷ []) = Err Header
lines_in conf entries stamp (line ∷ next ∷ more) = current_header entries stamp line >>= λ _. slots_of conf.types entries None conf.slots (next ∷ more)

-- the rows of an index under a configuration, of so many entries, whose dump has this stamp
unfoldable pub rows_in : Conf → ℕ → List ℕ → List ℕ → Result Rows IndexFaultKind
rows_in conf entries stamp text = lines_in conf entries stamp (parts line_feed text)
