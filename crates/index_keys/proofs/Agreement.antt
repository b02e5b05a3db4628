-- The set of an entry's keys has those that the test tells.
use Rattle.std.proofs.Common.{◌≡◌, ℕ, zero, suc, ◌+◌, ◌<◌, Bool, true, false, ◌&&◌, ◌||◌, List, [], ◌∷◌, map, nat_eq, get_or, Some, refl, sym, ap, ◌∙◌, arith, zero-add}
use Rattle.std.specs.List.{list_any, slice_get}
use Rattle.std.specs.Str.{bytes_eq}
use Rattle.std.specs.FinSet as set
use Rattle.std.proofs.lemmas.Bool.{eq-eqb, ne_eqb}
use Rattle.std.proofs.lemmas.List.Folds.{list_any-append}
use Rattle.std.proofs.lemmas.List.Quantifiers.{position-Some}
use Rattle.std.proofs.lemmas.Option.{slice_get-get_or}
use Rattle.values.specs.declared.types.AttributeType.{AttributeType}
use Rattle.schema.specs.declared.slots.IndexKind.{IndexKind}
use Rattle.schema.specs.declared.slots.Slot.{Slot}
use Rattle.schema.specs.Slots.{same_slot}
use Rattle.schema.specs.Conf.{Conf}
use Rattle.entries.specs.Entries.{Attributes}
use Rattle.schema.proofs.SlotOrder.{same_is}
use Rattle.index_text.specs.declared.slot_key.SlotKey.{SlotKey}
use Rattle.index_text.specs.SlotKeys.{slot_key, same_slot_key, is_among}
use Rattle.index_keys.specs.EntryKeys.{entry_keys, has_key, slot_keys_from, slot_keys}
use Rattle.index_text.specs.inner.SlotTests.{is_slot_that}
use Rattle.index_text.specs.Postings.{slot_in}
use Rattle.index_text.proofs.SlotKeyOrder.{contains-from_list}

pub among_slot : (n : ℕ) (ks : List (List ℕ)) (p : SlotKey) → is_among p (map (slot_key n) ks) ≡ (nat_eq n p.slot.0 && list_any (λ k. bytes_eq k p.key) ks)
among_slot n [] p = by (nat_eq n p.slot.0)
  where
    by : (b : Bool) → false ≡ (b && false)
    by true = refl
    by false = refl
among_slot n (k ∷ ks) p = ap (λ b. same_slot_key (slot_key n k) p || b) (among_slot n ks p) ∙ by (nat_eq n p.slot.0)
  where
    by : (b : Bool) → ((b && bytes_eq k p.key) || (b && list_any (λ k. bytes_eq k p.key) ks)) ≡ (b && (bytes_eq k p.key || list_any (λ k. bytes_eq k p.key) ks))
    by true = refl
    by false = refl

module _ (types : List AttributeType) (attrs : Attributes) where
  other_slot : (n m : ℕ) (ks : List (List ℕ)) (key : List ℕ) → nat_eq n m ≡ false → is_among (slot_key m key) (map (slot_key n) ks) ≡ false
  other_slot n m ks key apart = among_slot n ks (slot_key m key) ∙ ap (λ b. b && list_any (λ k. bytes_eq k key) ks) apart

  none_before : (ss : List Slot) (n m : ℕ) (key : List ℕ) → m < n → is_among (slot_key m key) (slot_keys_from types attrs n ss) ≡ false
  none_before [] n m key lt = refl
  none_before (s ∷ ss) n m key lt =
      list_any-append (λ x. same_slot_key x (slot_key m key)) (map (slot_key n) (entry_keys types attrs s.type_id s.kind)) (slot_keys_from types attrs (n + 1) ss)
      ∙ (λ i. other_slot n m (entry_keys types attrs s.type_id s.kind) key (ne_eqb n m (λ same. absurd (omega (arith, same, lt)))) i || none_before ss (n + 1) m key (omega (arith, lt)) i)

  or_false : (b : Bool) → (b || false) ≡ b
  or_false true = refl
  or_false false = refl

  at_place : (ss : List Slot) (n i m : ℕ) (key : List ℕ) → m ≡ n + i → is_among (slot_key m key) (slot_keys_from types attrs n ss) ≡ is_slot_that (λ s. has_key types attrs s.type_id s.kind key) (slice_get ss i)
  at_place [] n i m key is = refl
  at_place (s ∷ ss) n zero m key is =
      list_any-append (λ x. same_slot_key x (slot_key m key)) (map (slot_key n) (entry_keys types attrs s.type_id s.kind)) (slot_keys_from types attrs (n + 1) ss)
      ∙ (λ j. (among_slot n (entry_keys types attrs s.type_id s.kind) (slot_key m key) ∙ ap (λ b. b && has_key types attrs s.type_id s.kind key) (eq-eqb n m (omega (arith, is)))) j || none_before ss (n + 1) m key (omega (arith, is)) j)
      ∙ or_false (has_key types attrs s.type_id s.kind key)
  at_place (s ∷ ss) n (suc i) m key is =
      list_any-append (λ x. same_slot_key x (slot_key m key)) (map (slot_key n) (entry_keys types attrs s.type_id s.kind)) (slot_keys_from types attrs (n + 1) ss)
      ∙ (λ j. other_slot n m (entry_keys types attrs s.type_id s.kind) key (ne_eqb n m (λ same. absurd (omega (arith, same, is)))) j || at_place ss (n + 1) i m key (omega (arith, is)) j)

pub contains-slot_keys : (conf : Conf) (attrs : Attributes) (p : SlotKey) → set.contains (slot_keys conf attrs) p ≡ is_slot_that (λ s. has_key conf.types attrs s.type_id s.kind p.key) (slice_get conf.slots p.slot.0)
contains-slot_keys conf attrs p = contains-from_list (slot_keys_from conf.types attrs 0 conf.slots) p ∙ at_place conf.types attrs conf.slots 0 p.slot.0 p.slot.0 p.key (sym (zero-add p.slot.0))

slot_at : (slots : List Slot) (t : ℕ) (kind : IndexKind) (n : ℕ) → slot_in slots t kind ≡ Some n → slice_get slots n ≡ Some (record { type_id = t; kind = kind })
slot_at slots t kind n is =
    let wanted : Slot = record { type_id = t; kind = kind } in
    let first = position-Some (same_slot wanted) slots n wanted is in
    slice_get-get_or slots n wanted first.0 ∙ ap Some (sym (same_is wanted (get_or slots n wanted) first.1))

pub told_at : (conf : Conf) (attrs : Attributes) (t : ℕ) (kind : IndexKind) (slot : ℕ) (key : List ℕ) → slot_in conf.slots t kind ≡ Some slot → set.contains (slot_keys conf attrs) (slot_key slot key) ≡ has_key conf.types attrs t kind key
told_at conf attrs t kind slot key is = contains-slot_keys conf attrs (slot_key slot key) ∙ ap (is_slot_that (λ s. has_key conf.types attrs s.type_id s.kind key)) (slot_at conf.slots t kind slot is)

-- under the slot that stands at a place
pub told_there : (conf : Conf) (attrs : Attributes) (n : ℕ) (s : Slot) → slice_get conf.slots n ≡ Some s → (q : List ℕ) → has_key conf.types attrs s.type_id s.kind q ≡ set.contains (slot_keys conf attrs) (slot_key n q)
told_there conf attrs n s is q = sym (contains-slot_keys conf attrs (slot_key n q) ∙ ap (is_slot_that (λ s. has_key conf.types attrs s.type_id s.kind q)) is)
