-- Whether an entry, or none, has a key under a slot.
use Rattle.std.specs.Prelude.{◌≡◌, ℕ, Bool, not, ◌&&◌, List, [], take, drop, Option, Some, None}
use Rattle.std.specs.List.{slice_get}
use Rattle.values.specs.declared.types.AttributeType.{AttributeType}
use Rattle.schema.specs.declared.slots.Slot.{Slot}
use Rattle.schema.specs.Conf.{Conf}
use Rattle.entries.specs.Entries.{EntryContent}
use Rattle.index_text.specs.declared.slot_key.SlotKey.{SlotKey}
use Rattle.index_keys.specs.EntryKeys.{norms_under, gives_key}
use Rattle.index_text.specs.inner.SlotTests.{is_slot_that}

abbrev pub norms_in : List AttributeType → Option EntryContent → ℕ → List (List ℕ)
norms_in types None t = []
norms_in types (Some e) t = norms_under types e.attrs t

-- so many normal forms for a slot are the same in two entries, from the first on
abbrev pub HaveSameFront : List AttributeType → Slot → Option EntryContent → Option EntryContent → ℕ → Type 0
HaveSameFront types s a b count = take count (norms_in types a s.type_id) ≡ take count (norms_in types b s.type_id)

-- whether the normal forms give a key under a slot
abbrev pub has_under : List AttributeType → Slot → Option EntryContent → List ℕ → Bool
has_under types s e key = gives_key s.kind (norms_in types e s.type_id) key

-- whether the normal forms behind so many do
abbrev pub has_behind : List AttributeType → Slot → ℕ → Option EntryContent → List ℕ → Bool
has_behind types s front e key = gives_key s.kind (drop front (norms_in types e s.type_id)) key

abbrev pub has_slot_key : Conf → Option EntryContent → SlotKey → Bool
has_slot_key conf e p = is_slot_that (λ s. has_under conf.types s e p.key) (slice_get conf.slots p.slot.0)

-- whether a slot's key is one of the first entry and none of the second
abbrev pub is_only_in : List AttributeType → Slot → Option EntryContent → Option EntryContent → List ℕ → Bool
is_only_in types s a b key = has_under types s a key && not (has_under types s b key)

-- the same, under any slot
abbrev pub has_only : Conf → Option EntryContent → Option EntryContent → SlotKey → Bool
has_only conf a b p = has_slot_key conf a p && not (has_slot_key conf b p)
