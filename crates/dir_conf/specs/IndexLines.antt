-- Index lines: which slots they say.
use Rattle.std.specs.Prelude.{ℕ, Bool, not, ◌==◌, if◌then◌else◌, List, [], ◌∷◌, map, length, Result, Ok, Err, codes}
use Rattle.std.specs.List.{list_any, list_all, filter, flat_map, slice_split, range_with_len}
use Rattle.std.specs.Str.{bytes_eq}
use Rattle.base.specs.Answers.{◌>>=◌, each}
use Rattle.base.specs.Ascii.{comma}
use Rattle.definitions.specs.Words.{is_blank}
use Rattle.values.specs.declared.types.AttributeType.{AttributeType}
use Rattle.schema.specs.declared.slots.IndexKind.{IndexKind}
use Rattle.schema.specs.declared.slots.IndexKind.TheVariants.{Equality, Presence, Substrings}
use Rattle.schema.specs.declared.slots.Slot.{Slot}
use Rattle.schema.specs.Slots.{kind_rank, same_slot, can_be_kept}
use Rattle.dir_conf.specs.declared.conf_fault.ConfFaultKind.TheVariants.{Form, Index}
use Rattle.dir_conf.specs.ConfFaults.{At}
use Rattle.dir_conf.specs.NamesInLines.{type_named}

-- ---- slots of types and kinds

abbrev pub every_kind : List IndexKind
every_kind = Equality ∷ Presence ∷ Substrings ∷ []

abbrev pub same_kind : IndexKind → IndexKind → Bool
same_kind a b = kind_rank a == kind_rank b

-- a slot for each type and each kind
abbrev pub slots_with : List ℕ → List IndexKind → List Slot
slots_with ts kinds = flat_map (λ t. map (λ k. record { type_id = t; kind = k }) kinds) ts

-- the slots that so many types can have, in order
abbrev pub every_slot : ℕ → List Slot
every_slot count = slots_with (range_with_len 0 count) every_kind

-- those of them that were said
unfoldable pub in_order : ℕ → List Slot → List Slot
in_order count said = filter (λ s. list_any (same_slot s) said) (every_slot count)

-- ---- lines

abbrev pub is_comma : ℕ → Bool
is_comma b = b == comma

abbrev pub is_empty : List ℕ → Bool
is_empty text = length text == 0

-- what stands between spaces and tabs
abbrev pub words : List ℕ → List (List ℕ)
words text = filter (λ w. not (is_empty w)) (slice_split is_blank text)

abbrev pub two_words : ℕ → List (List ℕ) → Result (List ℕ × List ℕ) At
two_words line [] = Err (line, Form)
two_words line (names ∷ []) = Err (line, Form)
two_words line (names ∷ kinds ∷ []) = Ok (names, kinds)
two_words line (names ∷ kinds ∷ more ∷ others) = Err (line, Form)

abbrev pub unless_empty : ℕ → List (List ℕ) → Result (List (List ℕ)) At
unless_empty line parts = if list_any is_empty parts then Err (line, Form) else Ok parts

-- what stands between commas
abbrev pub members : ℕ → List ℕ → Result (List (List ℕ)) At
members line word = unless_empty line (slice_split is_comma word)

abbrev pub kind_named : ℕ → List ℕ → Result IndexKind At
kind_named line word =
    if bytes_eq word (codes "eq") then Ok Equality
    else (if bytes_eq word (codes "pres") then Ok Presence
    else (if bytes_eq word (codes "sub") then Ok Substrings else Err (line, Index)))

-- each kind once, in order
abbrev pub each_once : List IndexKind → List IndexKind
each_once kinds = filter (λ k. list_any (same_kind k) kinds) every_kind

abbrev pub if_kept : List AttributeType → ℕ → List Slot → Result (List Slot) At
if_kept types line slots = if list_all (can_be_kept types) slots then Ok slots else Err (line, Index)

-- of each type that is named, the slots of each kind that is listed
abbrev pub slots_of : List AttributeType → ℕ → List (List ℕ) → List (List ℕ) → Result (List Slot) At
slots_of types line names kinds = do
  ts ← each (type_named types line) names
  listed ← each (kind_named line) kinds
  if_kept types line (slots_with ts (each_once listed))

-- the slots that a line says behind its first word
unfoldable pub slots_in : List AttributeType → ℕ → List ℕ → Result (List Slot) At
slots_in types line text = do
  lists ← two_words line (words text)
  names ← members line lists.0
  kinds ← members line lists.1
  slots_of types line names kinds
