-- What is in order and which line ends keys, in the words of faults and as a reader tests it.
use Rattle.std.proofs.Common.{◌≡◌, ℕ, inl, inr, ◌⊎◌, ◌==◌, ◌||◌, Bool, true, false, cond, nat_lt, not, List, ◌++◌, Option, Some, None, codes, nat_eq, refl, sym, ap, ◌∙◌, drop}
use Rattle.std.proofs.lemmas.Bool.{eqb-true}
use Rattle.std.proofs.lemmas.Bool.Decides.{Decides-eqb}
use Rattle.std.proofs.lemmas.Slice.Eq.{bytes_eq-Decides, starts_is}
use Rattle.std.specs.declared.cmp.Ordering.{Ordering}
use Rattle.std.specs.declared.cmp.Ordering.TheVariants.{Less, Equal, Greater}
use Rattle.std.specs.Cmp.{nat_cmp_is}
use Rattle.std.specs.List.{starts_with}
use Rattle.std.specs.Ordering.{nat_cmp, ordering_then, is_lt}
use Rattle.std.specs.Str.{bytes_eq}
use Rattle.schema.specs.declared.slots.Slot.{Slot}
use Rattle.schema.specs.Slots.{kind_rank, slot_cmp}
use Rattle.index_text.specs.IndexTexts.{end_line}
use Rattle.stored_index.specs.KeyLines.{is_above}
use Rattle.stored_index.specs.SlotLines.{is_passed}
use Rattle.stored_index.specs.Reading.{ends_rows}
use Rattle.stored_index.specs.FaultyLines.{KeyComesAfter, SlotComesAfter, EndsKeys}
use Rattle.stored_index.proofs.OrderLaws.{less_from_lt, lt_from_less, less_from_above, above_from_less}

-- ---- keys

pub key_after : (before : Option (List ℕ)) (key : List ℕ) → is_above before key ≡ true → KeyComesAfter before key
key_after None key e = tt
key_after (Some b) key e = less_from_above b key e

pub key_above : (before : Option (List ℕ)) (key : List ℕ) → KeyComesAfter before key → is_above before key ≡ true
key_above None key after = refl
key_above (Some b) key after = above_from_less b key after

-- ---- slots

less_parts : (a b : Ordering) → ordering_then a b ≡ Less → (a ≡ Less) ⊎ ((a ≡ Equal) × (b ≡ Less))
less_parts Less b e = inl refl
less_parts Equal b e = inr (refl, e)
less_parts Greater b e = absurd cc

equal_by : (t u : Bool) → cond t Less (cond u Equal Greater) ≡ Equal → u ≡ true
equal_by true u e = absurd cc
equal_by false true e = refl
equal_by false false e = absurd cc

same_from_equal : (x y : ℕ) → nat_cmp x y ≡ Equal → x ≡ y
same_from_equal x y e = eqb-true x y (equal_by (nat_lt x y) (x == y) e)

after_from_less : (before s : Slot) → slot_cmp before s ≡ Less → SlotComesAfter (Some before) s
after_from_less before s e =
    elim (less_parts (nat_cmp before.type_id s.type_id) (nat_cmp (kind_rank before.kind) (kind_rank s.kind)) e) [
      | inl less ↦ inl (lt_from_less before.type_id s.type_id less)
      | inr parts ↦ inr (same_from_equal before.type_id s.type_id parts.0, lt_from_less (kind_rank before.kind) (kind_rank s.kind) parts.1)
    ]

less_from_after : (before s : Slot) → SlotComesAfter (Some before) s → slot_cmp before s ≡ Less
less_from_after before s (inl lt) = ap (λ (o : Ordering). ordering_then o (nat_cmp (kind_rank before.kind) (kind_rank s.kind))) (less_from_lt before.type_id s.type_id lt)
less_from_after before s (inr parts) =
    ap (λ (o : Ordering). ordering_then o (nat_cmp (kind_rank before.kind) (kind_rank s.kind))) (sym (nat_cmp_is before.type_id s.type_id Equal parts.0))
    ∙ less_from_lt (kind_rank before.kind) (kind_rank s.kind) parts.1

less_unless : (o : Ordering) → not (is_lt o) ≡ false → o ≡ Less
less_unless Less e = refl
less_unless Equal e = absurd cc
less_unless Greater e = absurd cc

pub slot_after : (before : Option Slot) (s : Slot) → is_passed before s ≡ false → SlotComesAfter before s
slot_after None s e = tt
slot_after (Some b) s e = after_from_less b s (less_unless (slot_cmp b s) e)

pub not_passed : (before : Option Slot) (s : Slot) → SlotComesAfter before s → is_passed before s ≡ false
not_passed None s after = refl
not_passed (Some b) s after = ap (λ (o : Ordering). not (is_lt o)) (less_from_after b s after)

pub slot_not_after : (before : Option Slot) (s : Slot) → is_passed before s ≡ true → SlotComesAfter before s → ⊥
slot_not_after before s passed after =
    let bad : true ≡ false = sym passed ∙ not_passed before s after in
    cc

pub passed : (before : Option Slot) (s : Slot) → (SlotComesAfter before s → ⊥) → is_passed before s ≡ true
passed before s none = by (is_passed before s) refl
  where
    by : (b : Bool) → is_passed before s ≡ b → b ≡ true
    by true is = refl
    by false is = absurd (none (slot_after before s is))

-- ---- the line that ends keys

one_of : (a b : Bool) → (a || b) ≡ true → (a ≡ true) ⊎ (b ≡ true)
one_of true b e = inl refl
one_of false b e = inr e

either : (a b : Bool) → (a ≡ true) ⊎ (b ≡ true) → (a || b) ≡ true
either true b e = refl
either false b (inl e) = absurd cc
either false b (inr e) = e

abbrev has_slot : List ℕ → Bool
has_slot line = starts_with nat_eq line (codes "slot ")

first_word : (line : List ℕ) → (has_slot line ≡ true → line ≡ codes "slot " ++ drop 5 line) × ((rest : List ℕ) → line ≡ codes "slot " ++ rest → has_slot line ≡ true)
first_word line = starts_is Decides-eqb line (codes "slot ") (has_slot line) refl

pub keys_end : (line : List ℕ) → ends_rows line ≡ true → EndsKeys line
keys_end line e = elim (one_of (bytes_eq line end_line) (has_slot line) e) [
  | inl last ↦ inr ((bytes_eq-Decides line end_line).0 last)
  | inr word ↦ inl (drop 5 line, (first_word line).0 word)
]

pub rows_end : (line : List ℕ) → EndsKeys line → ends_rows line ≡ true
rows_end line (inl word) = either (bytes_eq line end_line) (has_slot line) (inr ((first_word line).1 word.0 word.1))
rows_end line (inr last) = either (bytes_eq line end_line) (has_slot line) (inl ((bytes_eq-Decides line end_line).1 last))

pub no_keys_end : (line : List ℕ) → ends_rows line ≡ false → EndsKeys line → ⊥
no_keys_end line e ends =
    let bad : true ≡ false = sym (rows_end line ends) ∙ e in
    cc

pub no_rows_end : (line : List ℕ) → (EndsKeys line → ⊥) → ends_rows line ≡ false
no_rows_end line none = by (ends_rows line) refl
  where
    by : (b : Bool) → ends_rows line ≡ b → b ≡ false
    by true is = absurd (none (keys_end line is))
    by false is = refl
