-- What postings show of other keys than those that a filter asks for doesn't matter to it.
use Rattle.std.proofs.Common.{◌≡◌, ℕ, Bool, ◌&&◌, List, [], ◌∷◌, ◌++◌, map, refl, ap, ◌∙◌}
use Rattle.std.specs.Prelude.{Option, Some, None}
use Rattle.std.specs.List.{list_all, flat_map, AllByRecursion}
use Rattle.std.specs.FinSet.{contains}
use Rattle.schema.specs.declared.slots.IndexKind.{IndexKind}
use Rattle.schema.specs.declared.slots.IndexKind.TheVariants as kinds
use Rattle.filter.specs.declared.assertion.Assertion.{Assertion}
use Rattle.filter.specs.declared.assertion.Assertion.TheVariants.{Equality, GreaterOrEqual, LessOrEqual, Present, Substrings}
use Rattle.filter.specs.declared.prepared_item.PreparedItem.{PreparedItem}
use Rattle.filter.specs.declared.prepared_item.PreparedItem.TheVariants.{Undefined, Asserts}
use Rattle.filter.specs.Prepared.{PreparedContent, PreparedContents, All_of, Any_of, Not_of, Leaf, No_more, And_then}
use Rattle.index_keys.specs.EntryKeys.{windows}
use Rattle.index_text.specs.KeySets.{Members}
use Rattle.index_text.specs.Postings.{Shown}
use Rattle.index_text.specs.SlotKeys.{slot_key}
use Rattle.index_text.specs.declared.slot_key.SlotKey.{SlotKey}
use Rattle.candidates.specs.Asked.{asked_kind, asked_of_slot, keys_under, item_keys, asked_keys, asked_keys_each, HaveSameSlots, ShowAlike}
use Rattle.candidates.specs.Sides.{Sides, exactly, at_most, if_indexed, is_member, has_windows, assertion_sides, item_sides, all_sides, any_sides, swapped, sides, sides_each}

-- ---- of two lists, one behind the other

of_first : {X : Type 0} (P : X → Type 0) (xs ys : List X) → AllByRecursion P (xs ++ ys) → AllByRecursion P xs
of_first P [] ys h = tt
of_first P (x ∷ xs) ys h = (h.0, of_first P xs ys h.1)

of_second : {X : Type 0} (P : X → Type 0) (xs ys : List X) → AllByRecursion P (xs ++ ys) → AllByRecursion P ys
of_second P [] ys h = h
of_second P (x ∷ xs) ys h = of_second P xs ys h.1

module _ (a b : Shown) (n : ℕ) (same : HaveSameSlots a b) where
  -- ---- items

  -- of keys under one slot
  have_all : (slot : ℕ) (keys : List (List ℕ)) → ShowAlike a b (map (slot_key slot) keys) → list_all (is_member a n slot) keys ≡ list_all (is_member b n slot) keys
  have_all slot [] alike = refl
  have_all slot (key ∷ keys) alike = λ i. contains (alike.0 i) n && have_all slot keys alike.1 i

  -- and where that slot may be missing
  by_slot : (o p : Option ℕ) (keys : List (List ℕ)) (by_a by_b : ℕ → Sides) → o ≡ p → ((slot : ℕ) → ShowAlike a b (map (slot_key slot) keys) → by_a slot ≡ by_b slot)
      → ShowAlike a b (keys_under p keys) → if_indexed o by_a ≡ if_indexed p by_b
  by_slot o None keys by_a by_b is each alike = ap (λ (q : Option ℕ). if_indexed q by_a) is
  by_slot o (Some slot) keys by_a by_b is each alike = ap (λ (q : Option ℕ). if_indexed q by_a) is ∙ each slot alike

  -- of one key
  by_key : (t : ℕ) (kind : IndexKind) (key : List ℕ) (told : Bool → Sides) → ShowAlike a b (keys_under (b.slot_of t kind) (key ∷ []))
      → if_indexed (a.slot_of t kind) (λ slot. told (is_member a n slot key)) ≡ if_indexed (b.slot_of t kind) (λ slot. told (is_member b n slot key))
  by_key t kind key told =
      by_slot (a.slot_of t kind) (b.slot_of t kind) (key ∷ []) (λ slot. told (is_member a n slot key)) (λ slot. told (is_member b n slot key)) (same t kind)
      (λ slot alike. ap (λ (members : Members). told (contains members n)) alike.0)

  of_assertion : (t : ℕ) (x : Assertion) → ShowAlike a b (keys_under (b.slot_of t (asked_kind x)) (asked_of_slot x)) → assertion_sides a n t x ≡ assertion_sides b n t x
  of_assertion t (Equality value) = by_key t kinds.Equality value exactly
  of_assertion t Present = by_key t kinds.Presence [] exactly
  of_assertion t (GreaterOrEqual family value) = by_key t kinds.Presence [] at_most
  of_assertion t (LessOrEqual family value) = by_key t kinds.Presence [] at_most
  of_assertion t (Substrings p) =
      let keys = flat_map windows p.pieces in
      by_slot (a.slot_of t kinds.Substrings) (b.slot_of t kinds.Substrings) keys (λ slot. at_most (has_windows a n slot p.pieces)) (λ slot. at_most (has_windows b n slot p.pieces)) (same t kinds.Substrings)
      (λ slot alike. ap at_most (have_all slot keys alike))

  of_item : (item : PreparedItem) → ShowAlike a b (item_keys b.slot_of item) → item_sides a n item ≡ item_sides b n item
  of_item Undefined alike = refl
  of_item (Asserts t types x) alike = of_assertion t x alike

  -- ---- filters

  mutual
    of_filter : (f : PreparedContent) → ShowAlike a b (asked_keys b.slot_of f) → sides a n f ≡ sides b n f
    of_filter (All_of operands) alike = ap all_sides (of_each operands alike)
    of_filter (Any_of operands) alike = ap any_sides (of_each operands alike)
    of_filter (Not_of operand) alike = ap swapped (of_filter operand alike)
    of_filter (Leaf item) alike = of_item item alike

    of_each : (fs : PreparedContents) → ShowAlike a b (asked_keys_each b.slot_of fs) → sides_each a n fs ≡ sides_each b n fs
    of_each No_more alike = refl
    of_each (And_then first rest) alike =
        let is_alike = λ (k : SlotKey). a.members k.slot.0 k.key ≡ b.members k.slot.0 k.key in
        let keys = asked_keys b.slot_of first in
        let more = asked_keys_each b.slot_of rest in
        λ i. of_filter first (of_first is_alike keys more alike) i ∷ of_each rest (of_second is_alike keys more alike) i

-- of all filters
pub suffice : (a b : Shown) (f : PreparedContent) (n : ℕ) → HaveSameSlots a b → ShowAlike a b (asked_keys b.slot_of f) → sides a n f ≡ sides b n f
suffice a b f n same alike = of_filter a b n same f alike
