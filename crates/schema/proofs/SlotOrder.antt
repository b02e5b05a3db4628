-- Slots in their order: those that compare alike are one.
use Rattle.std.proofs.Common.{◌≡◌, ℕ, zero, suc, true, refl, sym, ap, ◌∙◌}
use Rattle.std.specs.declared.cmp.Ordering.{Ordering}
use Rattle.std.specs.Ordering.{nat_cmp, is_eq}
use Rattle.std.specs.declared.cmp.Ordering.TheVariants.{Less, Equal, Greater}
use Rattle.std.specs.Cmp.{IsTotalOrder}
use Rattle.std.proofs.lemmas.Cmp.{nat_cmp_total, on_total, then_total}
use Rattle.std.proofs.lemmas.Map.Lookups.{CmpEqualImpliesEq, exact_pairs, exact_unsigned}
use Rattle.schema.specs.declared.slots.IndexKind.{IndexKind}
use Rattle.schema.specs.declared.slots.IndexKind.TheVariants.{Equality, Presence, Substrings}
use Rattle.schema.specs.declared.slots.Slot.{Slot}
use Rattle.schema.specs.contracts.slots.SlotOrd.TheImpl as slot_ord
use Rattle.schema.specs.Slots.{kind_rank, slot_cmp, same_slot}

kinds_are : (t u : ℕ) (k l : IndexKind) → slot_ord.ghosts.cmp (record { type_id = t; kind = k }) (record { type_id = u; kind = l }) ≡ slot_cmp (record { type_id = t; kind = k }) (record { type_id = u; kind = l })
kinds_are t u Equality Equality = refl
kinds_are t u Equality Presence = refl
kinds_are t u Equality Substrings = refl
kinds_are t u Presence Equality = refl
kinds_are t u Presence Presence = refl
kinds_are t u Presence Substrings = refl
kinds_are t u Substrings Equality = refl
kinds_are t u Substrings Presence = refl
kinds_are t u Substrings Substrings = refl

-- the order that is derived
pub derived_is : (a b : Slot) → slot_ord.ghosts.cmp a b ≡ slot_cmp a b
derived_is a b = kinds_are a.type_id b.type_id a.kind b.kind

abbrev kind_at : ℕ → IndexKind
kind_at zero = Equality
kind_at (suc zero) = Presence
kind_at (suc (suc n)) = Substrings

ranked : (k : IndexKind) → k ≡ kind_at (kind_rank k)
ranked Equality = refl
ranked Presence = refl
ranked Substrings = refl

abbrev slot_of : ℕ × ℕ → Slot
slot_of p = record { type_id = p.0; kind = kind_at p.1 }

by_numbers : (s : Slot) → s ≡ slot_of (s.type_id, kind_rank s.kind)
by_numbers s = λ j. record { type_id = s.type_id; kind = ranked s.kind j }

pub slots_exact : CmpEqualImpliesEq slot_cmp
slots_exact a b h =
    by_numbers a
    ∙ ap slot_of (exact_pairs nat_cmp nat_cmp exact_unsigned exact_unsigned (a.type_id, kind_rank a.kind) (b.type_id, kind_rank b.kind) h)
    ∙ sym (by_numbers b)

pub slots_total : IsTotalOrder slot_cmp
slots_total = then_total (on_total (λ (s : Slot). s.type_id) nat_cmp_total) (on_total (λ (s : Slot). kind_rank s.kind) nat_cmp_total)

is_equal : (o : Ordering) → is_eq o ≡ true → o ≡ Equal
is_equal Less h = absurd cc
is_equal Equal h = refl
is_equal Greater h = absurd cc

pub same_is : (a b : Slot) → same_slot a b ≡ true → a ≡ b
same_is a b h = slots_exact a b (is_equal (slot_cmp a b) h)
