-- What was said in order: sorted, each slot once.
use Rattle.std.proofs.Common.{◌≡◌, ℕ, zero, suc, ◌+◌, ◌<◌, ◌≤◌, Bool, true, false, cond, ◌&&◌, ◌||◌, List, [], ◌∷◌, map, eqb, refl, sym, ap, subst, ◌∙◌, arith}
use Rattle.std.specs.List.{list_any, filter, AllByRecursion, range_with_len}
use Rattle.std.specs.List.Sorted.{IsStrictlySortedBy}
use Rattle.std.specs.declared.cmp.Ordering.{Ordering}
use Rattle.std.specs.Ordering.{nat_cmp, ordering_then}
use Rattle.std.specs.declared.cmp.Ordering.TheVariants.{Less, Equal}
use Rattle.std.specs.Cmp.{nat_cmp_is, eq_by_cmp_equiv}
use Rattle.std.specs.BTreeSet.{BTreeSet, IsFromIterResult}
use Rattle.std.proofs.lemmas.List.Kept.{IsStrictlySortedBy-filter}
use Rattle.std.proofs.lemmas.Map.Lookups.{btree_set_from_contains}
use Rattle.std.proofs.lemmas.Map.Made.{is_member-filter}
use Rattle.std.proofs.lemmas.List.Folds.{list_any-append}
use Rattle.std.proofs.lemmas.Bool.{eqb-true, eqb-false}
use Rattle.schema.specs.declared.slots.IndexKind.{IndexKind}
use Rattle.schema.specs.declared.slots.IndexKind.TheVariants.{Equality, Presence, Substrings}
use Rattle.schema.specs.declared.slots.Slot.{Slot}
use Rattle.schema.specs.Slots.{kind_rank, slot_cmp, same_slot}
use Rattle.schema.proofs.SlotOrder.{slots_exact, slots_total, same_is}
use Rattle.dir_conf.specs.IndexLines.{every_kind, slots_with, every_slot, in_order}

-- what holds of each that was said holds of one that is among them
pub said_is : (P : Slot → Type 0) (s : Slot) (said : List Slot) → AllByRecursion P said → list_any (same_slot s) said ≡ true → P s
said_is P s [] h is = absurd cc
said_is P s (x ∷ xs) h is =
    elim (same_slot s x) as (λ b. same_slot s x ≡ b → (b || list_any (same_slot s) xs) ≡ true → P s) [
      | true ↦ λ same _. subst P (sym (same_is s x same)) h.0
      | false ↦ λ _ more. said_is P s xs h.1 more
    ] refl is

-- ---- all slots that there can be

abbrev slot_at : ℕ → IndexKind → Slot
slot_at t k = record { type_id = t; kind = k }

below_slot : (t u : ℕ) (k l : IndexKind) → t < u → slot_cmp (slot_at t k) (slot_at u l) ≡ Less
below_slot t u k l lt = ap (λ (o : Ordering). ordering_then o (nat_cmp (kind_rank k) (kind_rank l))) (sym (nat_cmp_is t u Less lt))

within : (t : ℕ) (k l : IndexKind) → nat_cmp (kind_rank k) (kind_rank l) ≡ Less → slot_cmp (slot_at t k) (slot_at t l) ≡ Less
within t k l h = ap (λ (o : Ordering). ordering_then o (nat_cmp (kind_rank k) (kind_rank l))) (sym (nat_cmp_is t t Equal refl)) ∙ h

abbrev slots_from : ℕ → ℕ → List Slot
slots_from a n = slots_with (range_with_len a n) every_kind

all_above : (t a n : ℕ) (k : IndexKind) → t < a → AllByRecursion (λ y. slot_cmp (slot_at t k) y ≡ Less) (slots_from a n)
all_above t a zero k lt = tt
all_above t a (suc n) k lt =
    (below_slot t a k Equality lt, (below_slot t a k Presence lt, (below_slot t a k Substrings lt, all_above t (a + 1) n k (omega (arith, lt)))))

slots_rise : (a n : ℕ) → IsStrictlySortedBy slot_cmp (slots_from a n)
unfolding IsStrictlySortedBy
slots_rise a zero = tt
slots_rise a (suc n) =
    let more = λ (k : IndexKind). all_above a (a + 1) n k (omega arith) in
    ((within a Equality Presence refl, (within a Equality Substrings refl, more Equality)), ((within a Presence Substrings refl, more Presence), (more Substrings, slots_rise (a + 1) n)))

pub in_order_rises : (count : ℕ) (said : List Slot) → IsStrictlySortedBy slot_cmp (in_order count said)
unfolding in_order
in_order_rises count said = IsStrictlySortedBy-filter slot_cmp (λ s. list_any (same_slot s) said) (every_slot count) (slots_rise 0 count)

-- ---- what holds of each that was said holds of each in order

all_kept : (P : Slot → Type 0) (test : Slot → Bool) → ((s : Slot) → test s ≡ true → P s) → (ss : List Slot) → AllByRecursion P (filter test ss)
all_kept P test good [] = tt
all_kept P test good (s ∷ ss) =
    elim (test s) as (λ b. test s ≡ b → AllByRecursion P (cond b (s ∷ filter test ss) (filter test ss))) [
      | true ↦ λ is. (good s is, all_kept P test good ss)
      | false ↦ λ is. all_kept P test good ss
    ] refl

pub in_order_keeps : (P : Slot → Type 0) (count : ℕ) (said : List Slot) → AllByRecursion P said → AllByRecursion P (in_order count said)
unfolding in_order
in_order_keeps P count said h = all_kept P (λ s. list_any (same_slot s) said) (λ s is. said_is P s said h is) (every_slot count)

-- ---- a set of those that were said

same_self : (s : Slot) → same_slot s s ≡ true
same_self s = (eq_by_cmp_equiv slots_total).refl s

or_right : (a b : Bool) → b ≡ true → (a || b) ≡ true
or_right true b h = refl
or_right false b h = h

or_left : (a b : Bool) → a ≡ true → (a || b) ≡ true
or_left a b h = ap (λ (c : Bool). c || b) h

of_its_type : (t : ℕ) (k : IndexKind) → list_any (same_slot (slot_at t k)) (map (slot_at t) every_kind) ≡ true
of_its_type t Equality = or_left (same_slot (slot_at t Equality) (slot_at t Equality)) _ (same_self (slot_at t Equality))
of_its_type t Presence = or_right (same_slot (slot_at t Presence) (slot_at t Equality)) _ (or_left (same_slot (slot_at t Presence) (slot_at t Presence)) _ (same_self (slot_at t Presence)))
of_its_type t Substrings =
    or_right (same_slot (slot_at t Substrings) (slot_at t Equality)) _
    (or_right (same_slot (slot_at t Substrings) (slot_at t Presence)) _ (or_left (same_slot (slot_at t Substrings) (slot_at t Substrings)) false (same_self (slot_at t Substrings))))

is_there : (t : ℕ) (k : IndexKind) (a n : ℕ) → a ≤ t → t < a + n → list_any (same_slot (slot_at t k)) (slots_from a n) ≡ true
is_there t k a zero ge lt = absurd (omega arith)
is_there t k a (suc n) ge lt =
    list_any-append (same_slot (slot_at t k)) (map (slot_at a) every_kind) (slots_from (a + 1) n)
    ∙ elim (eqb t a) as (λ b. eqb t a ≡ b → (list_any (same_slot (slot_at t k)) (map (slot_at a) every_kind) || list_any (same_slot (slot_at t k)) (slots_from (a + 1) n)) ≡ true) [
      | true ↦ λ is. or_left _ _ (subst (λ (u : ℕ). list_any (same_slot (slot_at t k)) (map (slot_at u) every_kind) ≡ true) (eqb-true t a is) (of_its_type t k))
      | false ↦ λ isnt. or_right _ _ (is_there t k (a + 1) n (above (eqb-false t a isnt)) (omega (arith, lt)))
    ] refl
  where
    above : (t ≡ a → ⊥) → a + 1 ≤ t
    above other = omega (arith, other, ge)

both : (a b : Bool) → (b ≡ true → a ≡ true) → (a && b) ≡ b
both true b h = refl
both false true h = h refl
both false false h = refl

-- a set of what was said has it in order
pub set_is : (count : ℕ) (said : List Slot) (set : BTreeSet Slot) → AllByRecursion (λ s. s.type_id < count) said → IsFromIterResult slot_cmp said set → set.keys ≡ in_order count said
unfolding in_order
set_is count said set known h =
    btree_set_from_contains slots_total set (record { keys = in_order count said }) h.1 (in_order_rises count said) (λ q. h.0 q ∙ sym (there q)) slots_exact
  where
    below : (t : ℕ) → t < count → t < 0 + count
    below t lt = omega (arith, lt)

    test : Slot → Bool
    test s = list_any (same_slot s) said

    there : (q : Slot) → list_any (same_slot q) (filter test (every_slot count)) ≡ list_any (same_slot q) said
    there q =
        is_member-filter (eq_by_cmp_equiv slots_total) test q (λ x same. ap test (same_is q x same)) (every_slot count)
        ∙ both (list_any (same_slot q) (every_slot count)) (test q) (λ is. is_there q.type_id q.kind 0 count (omega arith) (below q.type_id (said_is (λ s. s.type_id < count) q said known is)))
