-- Lists of keys in order, each once.
use Rattle.std.specs.Prelude.{◌≡◌, ℕ, ◌<◌, Bool, ◌&&◌, nat_lt, List, ◌++◌, map, Option}
use Rattle.std.specs.List.{list_any, AllByRecursion}
use Rattle.std.specs.List.Sorted.{IsStrictlySortedBy}
use Rattle.std.specs.Cmp.Lexicographic.{slice_cmp}
use Rattle.std.specs.Ordering.{nat_cmp}
use Rattle.std.specs.Str.{bytes_eq}
use Rattle.std.specs.Borrow.{Bor}
use Rattle.values.specs.declared.types.AttributeType.{AttributeType}
use Rattle.schema.specs.declared.slots.Slot.{Slot}
use Rattle.entries.specs.StoredEntries.{Entry}
use Rattle.index_text.specs.declared.slot_key.SlotKey.{SlotKey}
use Rattle.index_text.specs.SlotKeys.{slot_key, slot_key_cmp, is_among}
use Rattle.index.specs.KeyChanges.{content_in}
use Rattle.index.specs.inner.SlotTests.{is_only_in}

-- whether a key is one of those that are lent
abbrev pub is_listed : List ℕ → List (Bor (List ℕ)) → Bool
is_listed key keys = list_any (λ k. bytes_eq k.now key) keys

-- the keys that pass the test
pub record AreKeys (test : List ℕ → Bool) (keys : List (List ℕ)) : Type 0 where
  pub rise : IsStrictlySortedBy (slice_cmp nat_cmp) keys
  pub exact : (q : List ℕ) → list_any (λ k. bytes_eq k q) keys ≡ test q

-- the same, of keys that are lent
abbrev pub AreListed : (List ℕ → Bool) → List (Bor (List ℕ)) → Type 0
AreListed test keys = AreKeys test (map (λ k. k.now) keys)

-- behind a list, the keys under one slot that pass the test
pub record IsWithKeys (slot : ℕ) (test : List ℕ → Bool) (old new : List SlotKey) : Type 0 where
  pub keys : List (List ℕ)
  pub are : AreKeys test keys
  pub is : new ≡ old ++ map (slot_key slot) keys

-- behind a list, the keys under a slot that the first entry has and the second hasn't
abbrev pub IsWithDifference : List AttributeType → ℕ → Slot → Option (Bor Entry) → Option (Bor Entry) → List SlotKey → List SlotKey → Type 0
IsWithDifference types number slot a b old new = IsWithKeys number (is_only_in types slot (content_in a) (content_in b)) old new

-- the keys under the slots before this one that pass the test
pub record AreSlotKeys (slots : ℕ) (test : SlotKey → Bool) (ps : List SlotKey) : Type 0 where
  pub rise : IsStrictlySortedBy slot_key_cmp ps
  pub within : AllByRecursion (λ p. p.slot.0 < slots) ps
  pub exact : (p : SlotKey) → is_among p ps ≡ (nat_lt p.slot.0 slots && test p)
