-- Keys under slots, in order.
use Rattle.std.proofs.Common.{◌≡◌, ℕ, true, ◌&&◌, ◌||◌, List, [], ◌∷◌, nat_eq, refl, sym, ap, ◌∙◌}
use Rattle.std.specs.List.{list_any}
use Rattle.std.specs.declared.cmp.Ordering.{Ordering}
use Rattle.std.specs.declared.cmp.Ordering.TheVariants.{Less, Equal, Greater}
use Rattle.std.specs.Ordering.{nat_cmp, is_eq, eq_by_cmp, ordering_then}
use Rattle.std.specs.Cmp.{IsTotalOrder, unsigned_tied}
use Rattle.std.specs.Cmp.Lexicographic.{slice_cmp, nat_list_cmp_total, bytes_decides}
use Rattle.std.specs.FinSet as set
use Rattle.std.specs.Str.{bytes_eq}
use Rattle.std.proofs.lemmas.Bool.{eqb-true, and_parts}
use Rattle.std.proofs.lemmas.Cmp.{nat_cmp_total, on_total, then_total, eq_by_cmp_equiv}
use Rattle.std.proofs.lemmas.Map.Text.{is_eq-slice_cmp}
use Rattle.index_text.specs.declared.slot_key.SlotKey.{SlotKey}
use Rattle.index_text.specs.contracts.slot_key.SlotKeyOrd.TheImpl as slot_key_ord
use Rattle.index_text.specs.SlotKeys.{same_slot_key, slot_key_cmp, is_among}

pub same_bytes : (a b : List ℕ) → bytes_eq a b ≡ true → a ≡ b
same_bytes a b e = (bytes_decides a b).0 e

pub slot_key_total : IsTotalOrder slot_key_cmp
slot_key_total = then_total (on_total (λ (p : SlotKey). p.slot.0) nat_cmp_total) (on_total (λ (p : SlotKey). p.key) nat_list_cmp_total)

pub slot_key_is : (p q : SlotKey) → same_slot_key p q ≡ true → p ≡ q
slot_key_is p q h =
    let parts = and_parts (nat_eq p.slot.0 q.slot.0) _ h in
    let slots : p.slot.0 ≡ q.slot.0 = eqb-true p.slot.0 q.slot.0 parts.0 in
    let keys : p.key ≡ q.key = same_bytes p.key q.key parts.1 in
    λ j. record { slot = record { 0 = slots j }; key = keys j }

then_is : (a b : Ordering) → is_eq (ordering_then a b) ≡ (is_eq a && is_eq b)
then_is Less b = refl
then_is Equal b = refl
then_is Greater b = refl

pub tied_is : (p q : SlotKey) → eq_by_cmp slot_key_cmp p q ≡ same_slot_key p q
tied_is p q =
    then_is (nat_cmp p.slot.0 q.slot.0) (slice_cmp nat_cmp p.key q.key)
    ∙ ap (λ b. b && is_eq (slice_cmp nat_cmp p.key q.key)) (unsigned_tied p.slot.0 q.slot.0)
    ∙ ap (λ b. nat_eq p.slot.0 q.slot.0 && b) (is_eq-slice_cmp p.key q.key)

pub slot_key_exact : set.IsAntisymmetric slot_key_cmp
slot_key_exact p q e = slot_key_is p q (sym (tied_is p q) ∙ ap is_eq e)

pub itself : (p : SlotKey) → same_slot_key p p ≡ true
itself p = sym (tied_is p p) ∙ (eq_by_cmp_equiv slot_key_total).refl p

pub turned : (p q : SlotKey) → same_slot_key p q ≡ same_slot_key q p
turned p q = sym (tied_is p q) ∙ (eq_by_cmp_equiv slot_key_total).symm p q ∙ tied_is q p

pub derived_is : (p q : SlotKey) → slot_key_ord.ghosts.cmp p q ≡ slot_key_cmp p q
derived_is p q = refl

any_same : (p : SlotKey) (ps : List SlotKey) → list_any (eq_by_cmp slot_key_cmp p) ps ≡ is_among p ps
any_same p [] = refl
any_same p (x ∷ xs) = ap (λ b. b || list_any (eq_by_cmp slot_key_cmp p) xs) (tied_is p x ∙ turned p x) ∙ ap (λ b. same_slot_key x p || b) (any_same p xs)

-- what a set that is made of a list has
pub contains-from_list : (ps : List SlotKey) (p : SlotKey) → set.contains (set.from_list {R = slot_key_cmp} ps) p ≡ is_among p ps
contains-from_list ps p = set.contains-from_list slot_key_total ps p ∙ any_same p ps
