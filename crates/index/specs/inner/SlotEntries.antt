-- The keys under a slot, each with the numbers of the entries that have it.
use Rattle.std.specs.Prelude.{◌≡◌, ℕ, Bool, ◌&&◌, ◌||◌, nat_eq, List, [], ◌∷◌, ⊤}
use Rattle.std.specs.FinSet as set
use Rattle.values.specs.declared.types.AttributeType.{AttributeType}
use Rattle.schema.specs.declared.slots.IndexKind.{IndexKind}
use Rattle.schema.specs.declared.slots.Slot.{Slot}
use Rattle.index_keys.specs.declared.type_norms.Numbered.{Numbered}
use Rattle.index_keys.specs.declared.type_norms.NumberedNorm.{NumberedNorm}
use Rattle.index_keys.specs.TypeNorms.{has_for, has_by}
use Rattle.index_text.specs.KeySets.{Members, SetsByKey, members_in}
use Rattle.index_text.specs.Indexes.{sets_in}
use Rattle.index_text.specs.declared.slot_key.SlotKey.{SlotKey}

-- the number came under each key that passes the test, and each other key has the members that it had
abbrev pub PutsEach : (List ℕ → Bool) → ℕ → SetsByKey → SetsByKey → Type 0
PutsEach test number old new = (q : List ℕ) (n : ℕ) → set.contains (members_in new q) n ≡ (set.contains (members_in old q) n || (nat_eq n number && test q))

-- the keys that these give, with their members
abbrev pub IsSetOf : IndexKind → List NumberedNorm → SetsByKey → Type 0
IsSetOf kind ns x = (q : List ℕ) (n : ℕ) → set.contains (members_in x q) n ≡ has_by kind ns q n

-- the keys under each slot, with their members
abbrev pub AreSetsOf : List AttributeType → List Numbered → List Slot → List SetsByKey → Type 0
AreSetsOf types es [] [] = ⊤
AreSetsOf types es (s ∷ ss) (x ∷ xs) = ((q : List ℕ) (n : ℕ) → set.contains (members_in x q) n ≡ has_for types es s.type_id s.kind q n) × AreSetsOf types es ss xs
AreSetsOf types es [] (x ∷ xs) = ⊥
AreSetsOf types es (s ∷ ss) [] = ⊥

-- the members of a key, in its slot
abbrev pub members_of : List SetsByKey → SlotKey → Members
members_of xs p = members_in (sets_in xs p.slot.0) p.key
