-- A number goes from every key, slot by slot.
use Rattle.std.proofs.Common.{◌≡◌, ◌≤◌, ℕ, ◌+◌, Bool, true, false, cond, ◌||◌, List, length, filter, nat_eq, nat_lt, get_or, refl, sym, ap, ◌∙◌, arith}
use Rattle.std.proofs.lemmas.Bool.{eqb-true, ltb-false}
use Rattle.std.proofs.lemmas.List.{get_or_past}
use Rattle.std.specs.FinMap as finite
use Rattle.std.specs.FinSet as set
use Rattle.index_text.specs.declared.slot_key.SlotKey.{SlotKey}
use Rattle.index_text.specs.KeySets.{Members, SetsByKey, Row, members_in}
use Rattle.index_text.specs.Indexes.{Index, members}
use Rattle.index.specs.Edits.{CountsEdits}
use Rattle.index.specs.Indexes.{Removes}
use Rattle.index.specs.KeySets.{AreRowsOf}
use Rattle.index.proofs.Edits.{has_number, slot_counted, forgotten}
use Rattle.index.proofs.Keyed.{none_in, remove_none}
use Rattle.index.proofs.Listed.{one_slot_more}
use Rattle.index.proofs.OneByOne.{take_again}

-- what goes from the keys of one slot is counted
pub under_counted : (slot n : ℕ) (old mid new : Index) (sets : SetsByKey) (rows : List Row) → ((p : SlotKey) → members mid p ≡ members old p) → get_or old.slots slot finite.empty ≡ sets → AreRowsOf sets rows
    → Removes (λ p. nat_eq slot p.slot.0) n mid new → mid.edits ≡ old.edits + length (filter (has_number n) rows) → new.edits ≡ mid.edits → CountsEdits old new
under_counted slot n old mid new sets rows same at are went rise still =
    slot_counted slot (members old) (members new) (members_in sets) (λ q. set.remove (members_in sets q) n) old.edits new.edits
    (λ p other. went p ∙ ap (λ b. cond b (set.remove (members mid p) n) (members mid p)) other ∙ same p)
    before
    (λ p here. went p ∙ ap (λ b. cond b (set.remove (members mid p) n) (members mid p)) here ∙ ap (λ (s : Members). set.remove s n) (same p ∙ before p here))
    (forgotten (members_in sets) (λ q. set.remove (members_in sets q) n) rows n old.edits new.edits are.rise are.exact (λ q. refl) (still ∙ rise))
  where
    before : (p : SlotKey) → nat_eq slot p.slot.0 ≡ true → members old p ≡ members_in sets p.key
    before p here =
        ap (λ (i : ℕ). members_in (get_or old.slots i finite.empty) p.key) (sym (eqb-true slot p.slot.0 here))
        ∙ ap (λ (s : SetsByKey). members_in s p.key) at

-- one slot more
pub slot_gone : (old mid new : Index) (place n : ℕ) → Removes (λ p. nat_eq place p.slot.0) n mid new → Removes (λ p. nat_lt p.slot.0 place) n old mid → Removes (λ p. nat_lt p.slot.0 (place + 1)) n old new
slot_gone old mid new place n step so_far p =
    step p
    ∙ ap (λ (s : Members). cond (nat_eq place p.slot.0) (set.remove s n) s) (so_far p)
    ∙ by (nat_eq place p.slot.0) (nat_lt p.slot.0 place)
    ∙ ap (λ b. cond b (set.remove (members old p) n) (members old p)) (one_slot_more place p.slot.0)
  where
    by : (a b : Bool) → cond a (set.remove (cond b (set.remove (members old p) n) (members old p)) n) (cond b (set.remove (members old p) n) (members old p)) ≡ cond (b || a) (set.remove (members old p) n) (members old p)
    by true true = take_again (members old p) n
    by true false = refl
    by false true = refl
    by false false = refl

-- behind the last slot there are no keys
pub all_gone : (old new : Index) (place n : ℕ) → length old.slots ≤ place → Removes (λ p. nat_lt p.slot.0 place) n old new → (p : SlotKey) → members new p ≡ set.remove (members old p) n
all_gone old new place n all gone p = gone p ∙ by (nat_lt p.slot.0 place) refl
  where
    past : nat_lt p.slot.0 place ≡ false → members old p ≡ set.empty
    past late =
        let end : length old.slots ≤ p.slot.0 = let le = ltb-false p.slot.0 place late in omega (arith, le, all) in
        ap (λ (s : SetsByKey). members_in s p.key) (get_or_past old.slots p.slot.0 finite.empty end) ∙ none_in p.key

    by : (b : Bool) → nat_lt p.slot.0 place ≡ b → cond b (set.remove (members old p) n) (members old p) ≡ set.remove (members old p) n
    by true early = refl
    by false late = past late ∙ remove_none n ∙ ap (λ (s : Members). set.remove s n) (sym (past late))
