-- Which fault a text has, apart from any reader: what is wrong with the first line that is at fault, behind lines that aren't.
use Rattle.std.specs.Prelude.{◌≡◌, ℕ, ◌<◌, ◌^◌, ◌⊎◌, true, false, List, [], ◌∷◌, ◌++◌, length, map, Option, Some, None, codes}
use Rattle.std.specs.List.{flat_map, AllByRecursion, All}
use Rattle.std.specs.List.Sorted.{IsStrictlySortedBy}
use Rattle.std.specs.Cmp.Lexicographic.{slice_cmp}
use Rattle.std.specs.Ordering.{nat_cmp}
use Rattle.std.specs.declared.cmp.Ordering.TheVariants.{Less}
use Rattle.base.specs.Ascii.{space, line_feed}
use Rattle.memchr.specs.Find.{is_byte}
use Rattle.values.specs.declared.types.AttributeType.{AttributeType}
use Rattle.values.specs.Types.{is_known}
use Rattle.schema.specs.Conf.{Conf}
use Rattle.schema.specs.Slots.{kind_rank}
use Rattle.schema.specs.declared.slots.Slot.{Slot}
use Rattle.index_text.specs.IndexTexts.{Row, Rows, header_line, slot_line, slot_text, key_line, end_line}
use Rattle.stored_index.specs.Rows.{IsByte, AreSlotRows, slot_of}
use Rattle.stored_index.specs.declared.fault.IndexFaultKind.{IndexFaultKind}
use Rattle.stored_index.specs.declared.fault.IndexFaultKind.TheVariants.{Header, Stale, Form, Order, Rank}

-- ---- what stands in order

-- a key comes after the one before it: the first byte in which two keys differ decides, and a beginning of a key comes before that key
abbrev pub KeyComesAfter : Option (List ℕ) → List ℕ → Type 0
KeyComesAfter None key = Unit {0}
KeyComesAfter (Some before) key = slice_cmp nat_cmp before key ≡ Less

-- a slot comes after the one before it: by the number of its type, and of one type equality comes first, then presence, then substrings
abbrev pub SlotComesAfter : Option Slot → Slot → Type 0
SlotComesAfter None s = Unit {0}
SlotComesAfter (Some before) s = (before.type_id < s.type_id) ⊎ ((before.type_id ≡ s.type_id) × (kind_rank before.kind < kind_rank s.kind))

-- ---- the line of a key

-- a key and ranks, in whatever order and of whatever entries
pub record IsSpelled (row : Row) : Type 0 where
  pub key : AllByRecursion IsByte row.0
  pub some : 0 < length row.1
  pub short : AllByRecursion (λ n. n < 10 ^ 10) row.1

-- the key comes after the one before it, and the ranks rise
pub record IsInOrder (before : Option (List ℕ)) (row : Row) : Type 0 where
  pub above : KeyComesAfter before row.0
  pub rising : IsStrictlySortedBy nat_cmp row.1

-- what is wrong with a line that stands where a key may stand, and isn't that of a slot nor the last one
abbrev pub IsRowFault : Option (List ℕ) → ℕ → List ℕ → IndexFaultKind → Type 0
IsRowFault before entries line Header = ⊥
IsRowFault before entries line Stale = ⊥
IsRowFault before entries line Form = (row : Row) → IsSpelled row → line ≡ key_line row → ⊥
IsRowFault before entries line Order = (row : Row) × IsSpelled row × (line ≡ key_line row) × (IsInOrder before row → ⊥)
IsRowFault before entries line Rank = (row : Row) × IsSpelled row × (line ≡ key_line row) × IsInOrder before row × (AllByRecursion (λ n. n < entries) row.1 → ⊥)

-- ---- the line of a slot, and the last one

abbrev pub IsKnown : List AttributeType → Slot → Type 0
IsKnown types s = is_known types s.type_id ≡ true

-- the next one that is due
abbrev pub IsNext : List Slot → Slot → Type 0
IsNext [] s = ⊥
IsNext (d ∷ due) s = s ≡ d

-- what a line spells isn't due: no slot that comes after the one before it is the next one, and the last line comes behind all slots and before nothing
pub record IsNotDue (types : List AttributeType) (before : Option Slot) (due : List Slot) (line more : List ℕ) : Type 0 where
  pub slots : (s : Slot) → IsKnown types s → line ≡ slot_line types s → SlotComesAfter before s × (IsNext due s → ⊥)
  pub end : line ≡ end_line → due ≡ [] → more ≡ [] → ⊥

-- what is wrong with a line that stands where no key may stand, or with one that isn't that of a key
abbrev pub IsSlotFault : List AttributeType → Option Slot → List Slot → List ℕ → List ℕ → IndexFaultKind → Type 0
IsSlotFault types before due line more Header = ⊥
IsSlotFault types before due line more Stale = ⊥
IsSlotFault types before due line more Form = IsNotDue types before due line more
IsSlotFault types before due line more Order = (s : Slot) × IsKnown types s × (line ≡ slot_line types s) × (SlotComesAfter before s → ⊥)
IsSlotFault types before due line more Rank = ⊥

-- ---- where it stands

-- the last slot before a line, and its last key
abbrev pub Last : Type 0
Last = Option (Slot × Option (List ℕ))

abbrev pub key_behind : Option (List ℕ) → List Row → Option (List ℕ)
key_behind before [] = before
key_behind before (row ∷ rows) = key_behind (Some row.0) rows

abbrev pub last_behind : Last → Rows → Last
last_behind last [] = last
last_behind last (s ∷ done) = last_behind (Some (s.0, key_behind None s.1)) done

abbrev pub last_slot : Last → Option Slot
last_slot None = None
last_slot (Some last) = Some last.0

-- the line ends the keys of the slot before it: `slot` is its first word, whatever stands behind that, or it is the last line
abbrev pub EndsKeys : List ℕ → Type 0
EndsKeys line = ((rest : List ℕ) × (line ≡ codes "slot" ++ space ∷ rest)) ⊎ (line ≡ end_line)

-- a key may stand behind the line of a slot, up to the line that ends its keys
abbrev pub IsLineFault : List AttributeType → ℕ → Last → List Slot → List ℕ → List ℕ → IndexFaultKind → Type 0
IsLineFault types entries None due line more kind = IsSlotFault types None due line more kind
IsLineFault types entries (Some last) due line more kind =
    ((EndsKeys line → ⊥) × IsRowFault last.1 entries line kind) ⊎ (EndsKeys line × IsSlotFault types (Some last.0) due line more kind)

abbrev pub HasNoLineFeed : List ℕ → Type 0
HasNoLineFeed text = All (λ b. is_byte line_feed b ≡ false) text

-- what is wrong at the beginning of a text: no line feed ends its line, or the line is at fault
abbrev pub IsFaultAt : List AttributeType → ℕ → Last → List Slot → List ℕ → IndexFaultKind → Type 0
IsFaultAt types entries last due text kind =
    (HasNoLineFeed text × (kind ≡ Form))
    ⊎ ((line : List ℕ) × (more : List ℕ) × (text ≡ line ++ line_feed ∷ more) × HasNoLineFeed line × IsLineFault types entries last due line more kind)

-- behind slots that are done, with rows that are good as far as they go
pub record IsLaterFault (types : List AttributeType) (entries : ℕ) (last : Last) (slots : List Slot) (text : List ℕ) (kind : IndexFaultKind) : Type 0 where
  pub done : Rows
  pub due : List Slot
  pub rest : List ℕ
  pub slots_are : slots ≡ map slot_of done ++ due
  pub good : AllByRecursion (λ s. AreSlotRows entries s.1) done
  pub text_is : text ≡ flat_map (slot_text types) done ++ rest
  pub fault : IsFaultAt types entries (last_behind last done) due rest kind

-- ---- the first line

-- so many entries, and a stamp of 32 bytes
pub record IsHeader (n : ℕ) (s : List ℕ) : Type 0 where
  pub short : n < 10 ^ 10
  pub size : length s ≡ 32
  pub bytes : AllByRecursion IsByte s

abbrev pub IsIndexFault : Conf → ℕ → List ℕ → List ℕ → IndexFaultKind → Type 0
IsIndexFault conf entries stamp text Header = (n : ℕ) (s rest : List ℕ) → IsHeader n s → text ≡ header_line n s ++ line_feed ∷ rest → ⊥
IsIndexFault conf entries stamp text Stale = (n : ℕ) × (s : List ℕ) × (rest : List ℕ) × IsHeader n s × (text ≡ header_line n s ++ line_feed ∷ rest) × (n ≡ entries → s ≡ stamp → ⊥)
IsIndexFault conf entries stamp text Form = (rest : List ℕ) × (text ≡ header_line entries stamp ++ line_feed ∷ rest) × IsLaterFault conf.types entries None conf.slots rest Form
IsIndexFault conf entries stamp text Order = (rest : List ℕ) × (text ≡ header_line entries stamp ++ line_feed ∷ rest) × IsLaterFault conf.types entries None conf.slots rest Order
IsIndexFault conf entries stamp text Rank = (rest : List ℕ) × (text ≡ header_line entries stamp ++ line_feed ∷ rest) × IsLaterFault conf.types entries None conf.slots rest Rank
