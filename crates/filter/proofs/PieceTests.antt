-- The test for pieces tells where they fit.
use Rattle.std.proofs.Common.{◌≡◌, ◌↔◌, ℕ, Bool, true, false, ◌⊎◌, inl, inr, List, [], ◌∷◌, ◌++◌, length, take, drop, refl, sym, ap, ◌∙◌}
use Rattle.std.proofs.Math.Seq.{take-append_seam, drop-append_seam}
use Rattle.std.proofs.lemmas.Bool.{and_from, and_parts, or_left, or_right, or_cases, eqb-true, eq-eqb}
use Rattle.std.proofs.lemmas.List.{nil_from_length, take-append-drop}
use Rattle.std.proofs.lemmas.Slice.Eq.{bytes_eq-Decides}
use Rattle.std.specs.Str.{bytes_eq}
use Rattle.matching.specs.Substrings.{Fits}
use Rattle.matching.specs.inner.Places.{InOrder}
use Rattle.matching.proofs.Stretches.{with_star, no_pieces, without_star}
use Rattle.filter.specs.Pieces.{is_empty, at_some_end, begins_and, stand_in, fits}
use Rattle.filter.proofs.Told.{told_by}

-- ---- a test of the ends of a text

some_end_of : (test : List ℕ → Bool) (b : ℕ) (text : List ℕ)
    → (at_some_end test text ≡ true → (gap : List ℕ) × (rest : List ℕ) × (text ≡ gap ++ rest) × (test rest ≡ true))
    → (test (b ∷ text) ≡ true) ⊎ (at_some_end test text ≡ true) → (gap : List ℕ) × (rest : List ℕ) × (b ∷ text ≡ gap ++ rest) × (test rest ≡ true)
some_end_of test b text more (inl here) = ([], b ∷ text, refl, here)
some_end_of test b text more (inr later) = let r = more later in (b ∷ r.0, r.1, ap (λ t. b ∷ t) r.2, r.3)

some_end : (test : List ℕ → Bool) (text : List ℕ) → at_some_end test text ≡ true → (gap : List ℕ) × (rest : List ℕ) × (text ≡ gap ++ rest) × (test rest ≡ true)
some_end test [] e = ([], [], refl, e)
some_end test (b ∷ text) e = some_end_of test b text (some_end test text) (or_cases (test (b ∷ text)) (at_some_end test text) e)

at_front : (test : List ℕ → Bool) (text : List ℕ) → test text ≡ true → at_some_end test text ≡ true
at_front test [] e = e
at_front test (b ∷ text) e = or_left (test (b ∷ text)) (at_some_end test text) e

behind : (test : List ℕ → Bool) (gap rest : List ℕ) → test rest ≡ true → at_some_end test (gap ++ rest) ≡ true
behind test [] rest e = at_front test rest e
behind test (b ∷ gap) rest e = or_right (test (b ∷ (gap ++ rest))) (at_some_end test (gap ++ rest)) (behind test gap rest e)

-- ---- a piece at the front

begun : (piece : List ℕ) (test : List ℕ → Bool) (text : List ℕ) → begins_and piece test text ≡ true → (rest : List ℕ) × (text ≡ piece ++ rest) × (test rest ≡ true)
begun piece test text e =
    let n = length piece in
    let h = and_parts (bytes_eq (take n text) piece) (test (drop n text)) e in
    let same = (bytes_eq-Decides (take n text) piece).0 h.0 in
    (drop n text, sym (take-append-drop n text) ∙ ap (λ (p : List ℕ). p ++ drop n text) same, h.1)

begins : (piece rest : List ℕ) (test : List ℕ → Bool) → test rest ≡ true → begins_and piece test (piece ++ rest) ≡ true
begins piece rest test e =
    and_from _ _
    ((bytes_eq-Decides (take (length piece) (piece ++ rest)) piece).1 (take-append_seam piece rest))
    (ap test (drop-append_seam piece rest) ∙ e)

-- ---- pieces in order

empty : (text : List ℕ) → (is_empty text ≡ true) ↔ (text ≡ [])
empty text = (λ e. nil_from_length text (eqb-true (length text) 0 e), λ e. eq-eqb (length text) 0 (ap length e))

-- a piece somewhere, and behind it what a test tells
somewhere : (piece : List ℕ) (test : List ℕ → Bool) (In : List ℕ → Type 0) → ((rest : List ℕ) → (test rest ≡ true) ↔ In rest)
    → (text : List ℕ) → (at_some_end (begins_and piece test) text ≡ true) ↔ ((gap : List ℕ) × (rest : List ℕ) × (text ≡ gap ++ (piece ++ rest)) × In rest)
somewhere piece test In tells text = (
  λ e.
      let at = some_end (begins_and piece test) text e in
      let after = begun piece test at.1 at.3 in
      (at.0, after.0, at.2 ∙ ap (λ (t : List ℕ). at.0 ++ t) after.1, (tells after.0).0 after.2),
  λ h. ap (at_some_end (begins_and piece test)) h.2 ∙ behind (begins_and piece test) h.0 (piece ++ h.1) (begins piece h.1 test ((tells h.1).1 h.3)),
)

-- the same at the front
at_first : (piece : List ℕ) (test : List ℕ → Bool) (In : List ℕ → Type 0) → ((rest : List ℕ) → (test rest ≡ true) ↔ In rest)
    → (text : List ℕ) → (begins_and piece test text ≡ true) ↔ ((rest : List ℕ) × (text ≡ piece ++ rest) × In rest)
at_first piece test In tells text = (
  λ e. let after = begun piece test text e in (after.0, after.1, (tells after.0).0 after.2),
  λ h. ap (begins_and piece test) h.1 ∙ begins piece h.0 test ((tells h.0).1 h.2),
)

stands : (back : Bool) (pieces : List (List ℕ)) (text : List ℕ) → (stand_in back pieces text ≡ true) ↔ InOrder back pieces text
stands true [] text = (λ _. tt, λ _. refl)
stands false [] text = empty text
stands back (piece ∷ pieces) text = somewhere piece (stand_in back pieces) (InOrder back pieces) (stands back pieces) text

pub fits_told : (front back : Bool) (pieces : List (List ℕ)) (text : List ℕ) → (fits front back pieces text ≡ true) ↔ Fits front back pieces text
fits_told true back pieces text = told_by _ _ _ (stands back pieces text) (with_star true back pieces text refl)
fits_told false back [] text = told_by _ _ _ (empty text) (no_pieces false back text refl)
fits_told false back (piece ∷ pieces) text =
    told_by _ _ _ (at_first piece (stand_in back pieces) (InOrder back pieces) (stands back pieces) text) (without_star false back piece pieces text refl)
