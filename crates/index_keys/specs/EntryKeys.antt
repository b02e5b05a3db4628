-- The keys of an entry: what it is found by.
use Rattle.std.specs.Prelude.{◌≡◌, ℕ, ◌+◌, Bool, List, [], ◌∷◌, ◌++◌, length, map, Option, Some, None, if◌then◌else◌}
use Rattle.std.specs.List.{list_any, flat_map}
use Rattle.std.specs.Str.{bytes_eq}
use Rattle.std.specs.FinSet as set
use Rattle.values.specs.declared.types.AttributeType.{AttributeType}
use Rattle.schema.specs.declared.slots.IndexKind.{IndexKind}
use Rattle.schema.specs.declared.slots.IndexKind.TheVariants.{Equality, Presence, Substrings}
use Rattle.schema.specs.declared.slots.Slot.{Slot}
use Rattle.schema.specs.Conf.{Conf}
use Rattle.schema.specs.Values.{norm_at}
use Rattle.entries.specs.Entries.{Attributes, EntryContent}
use Rattle.index_text.specs.declared.slot_key.SlotKey.{SlotKey}
use Rattle.schema.specs.Subtypes.{is_subtype}
use Rattle.index_text.specs.SlotKeys.{SlotKeys, slot_key}

-- ---- the keys for a type and a kind of index

-- the normal forms of the values of a type and of its subtypes
abbrev pub norms_under : List AttributeType → Attributes → ℕ → List (List ℕ)
norms_under types attrs t = flat_map (λ a. if is_subtype types a.0 t then map (norm_at types a.0) a.1 else []) attrs

-- all windows of three bytes
abbrev pub windows : List ℕ → List (List ℕ)
windows [] = []
windows (a ∷ []) = []
windows (a ∷ b ∷ []) = []
windows (a ∷ b ∷ c ∷ rest) = (a ∷ b ∷ c ∷ []) ∷ windows (b ∷ c ∷ rest)

-- whether a key is a window of a text
abbrev pub is_window : List ℕ → List ℕ → Bool
is_window text key = list_any (λ k. bytes_eq k key) (windows text)

-- a key of three bytes stands in a text: behind some bytes, and before others
pub record IsCutOut (text key : List ℕ) : Type 0 where
  pub front : List ℕ
  pub back : List ℕ
  pub text_is : text ≡ front ++ key ++ back
  pub size : length key ≡ 3

-- one empty key where there is a value
abbrev pub empty_key : List (List ℕ) → List (List ℕ)
empty_key [] = []
empty_key (norm ∷ norms) = [] ∷ []

-- equality: the normal forms; presence: one empty key where there is one; substrings: all windows of three of their bytes
abbrev pub keys_by : IndexKind → List (List ℕ) → List (List ℕ)
keys_by Equality norms = norms
keys_by Presence norms = empty_key norms
keys_by Substrings norms = flat_map windows norms

abbrev pub entry_keys : List AttributeType → Attributes → ℕ → IndexKind → List (List ℕ)
entry_keys types attrs t kind = keys_by kind (norms_under types attrs t)

-- whether normal forms give a key
abbrev pub gives_key : IndexKind → List (List ℕ) → List ℕ → Bool
gives_key kind norms key = list_any (λ k. bytes_eq k key) (keys_by kind norms)

-- whether an entry has a key for a type and a kind of index
abbrev pub has_key : List AttributeType → Attributes → ℕ → IndexKind → List ℕ → Bool
has_key types attrs t kind key = gives_key kind (norms_under types attrs t) key

-- ---- the keys under the slots of a configuration

-- under each of these slots, the first of which has this number
abbrev pub slot_keys_from : List AttributeType → Attributes → ℕ → List Slot → List SlotKey
slot_keys_from types attrs n [] = []
slot_keys_from types attrs n (s ∷ ss) = map (slot_key n) (entry_keys types attrs s.type_id s.kind) ++ slot_keys_from types attrs (n + 1) ss

-- all keys of an entry, as a set
abbrev pub slot_keys : Conf → Attributes → SlotKeys
slot_keys conf attrs = set.from_list (slot_keys_from conf.types attrs 0 conf.slots)

-- those of an entry, or none where there is no entry
abbrev pub slot_keys_in : Conf → Option EntryContent → SlotKeys
slot_keys_in conf None = set.empty
slot_keys_in conf (Some e) = slot_keys conf e.attrs

-- how many keys belong to exactly one of two entries, each of which may be none
abbrev pub edits : Conf → Option EntryContent → Option EntryContent → ℕ
edits conf a b = set.len (set.difference (slot_keys_in conf a) (slot_keys_in conf b)) + set.len (set.difference (slot_keys_in conf b) (slot_keys_in conf a))
