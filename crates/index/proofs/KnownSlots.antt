-- The keys that one entry, or none, has under the slots that there are.
use Rattle.std.proofs.Common.{◌≡◌, ℕ, Bool, true, false, ◌&&◌, List, [], length, nat_lt, Option, Some, None, refl, sym, ap, ◌∙◌}
use Rattle.std.specs.List.{slice_get}
use Rattle.std.specs.FinSet as set
use Rattle.std.proofs.lemmas.Bool.{ltb-false}
use Rattle.std.proofs.lemmas.Option.{slice_get_past}
use Rattle.schema.specs.declared.slots.Slot.{Slot}
use Rattle.schema.specs.Conf.{Conf}
use Rattle.entries.specs.Entries.{Attributes, EntryContent}
use Rattle.index_text.specs.declared.slot_key.SlotKey.{SlotKey}
use Rattle.index_text.specs.SlotKeys.{slot_key_cmp}
use Rattle.index_keys.specs.EntryKeys.{gives_key, has_key, slot_keys, slot_keys_in}
use Rattle.index_text.specs.inner.SlotTests.{is_slot_that}
use Rattle.index_keys.proofs.Agreement.{contains-slot_keys}
use Rattle.index.specs.inner.SlotTests.{norms_in, has_slot_key}
use Rattle.index.proofs.Fronts.{gives_none}

no_slot : (o : Option Slot) (key : List ℕ) → is_slot_that (λ s. gives_key s.kind [] key) o ≡ false
no_slot None key = refl
no_slot (Some s) key = gives_none s.kind key

pub contains-slot_keys_in : (conf : Conf) (e : Option EntryContent) (p : SlotKey) → set.contains (slot_keys_in conf e) p ≡ has_slot_key conf e p
contains-slot_keys_in conf None p = set.contains-empty slot_key_cmp p ∙ sym (no_slot (slice_get conf.slots p.slot.0) p.key)
contains-slot_keys_in conf (Some e) p = contains-slot_keys conf e.attrs p

known_slot : (slots : List Slot) (test : Slot → Bool) (n : ℕ) → (nat_lt n (length slots) && is_slot_that test (slice_get slots n)) ≡ is_slot_that test (slice_get slots n)
known_slot slots test n = by (nat_lt n (length slots)) refl
  where
    by : (b : Bool) → nat_lt n (length slots) ≡ b → (b && is_slot_that test (slice_get slots n)) ≡ is_slot_that test (slice_get slots n)
    by true within = refl
    by false past = sym (ap (is_slot_that test) (slice_get_past slots n (ltb-false n (length slots) past)))

pub known : (conf : Conf) (e : Option EntryContent) (p : SlotKey) → (nat_lt p.slot.0 (length conf.slots) && has_slot_key conf e p) ≡ has_slot_key conf e p
known conf e p = known_slot conf.slots (λ s. gives_key s.kind (norms_in conf.types e s.type_id) p.key) p.slot.0

pub known_key : (conf : Conf) (attrs : Attributes) (p : SlotKey) → (nat_lt p.slot.0 (length conf.slots) && set.contains (slot_keys conf attrs) p) ≡ set.contains (slot_keys conf attrs) p
known_key conf attrs p =
    ap (λ b. nat_lt p.slot.0 (length conf.slots) && b) (contains-slot_keys conf attrs p)
    ∙ known_slot conf.slots (λ s. has_key conf.types attrs s.type_id s.kind p.key) p.slot.0
    ∙ sym (contains-slot_keys conf attrs p)
