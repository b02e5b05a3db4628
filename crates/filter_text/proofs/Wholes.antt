-- Whole texts.
use Rattle.std.proofs.Common.{◌≡◌, ℕ, ◌-◌, ◌≤◌, ◌==◌, List, [], ◌∷◌, ◌++◌, length, take, refl, sym, ap, subst, ◌∙◌, arith, false, inl, inr, length-append}
use Rattle.std.proofs.lemmas.List.{append-nil, take_at}
use Rattle.filter_text.specs.inner.Begins.{Begins}
use Rattle.base.specs.Ends.{is_space}
use Rattle.filter_text.specs.Runs.{Run, Stops}
use Rattle.filter_text.specs.Spells.{FilterContent, IsFilterComp, IsFilter, FilterText}
use Rattle.filter_text.proofs.Runs.{both_ways, head_eq}
use Rattle.filter_text.proofs.Texts.{comp_first, spells_stops, not_first, Not_first}
use Rattle.filter_text.proofs.Readings.{spaces_off, comp_stops}

-- a text that opens with a parenthesis is one filter in spaces
pub whole_wrapped : (f : FilterContent) (text s start inside : List ℕ) → Run is_space s → Stops is_space start → text ≡ s ++ start → start ≡ 40 ∷ inside → FilterText f text
    → (a : List ℕ) × (z : List ℕ) × (start ≡ a ++ z) × IsFilter f a × Run is_space z
whole_wrapped f text s start inside r stops e opening (inl h) = (h.1, h.2, spaces_off s h.0 start (h.1 ++ h.2) r h.4 stops (spells_stops f h.1 h.2 h.5) (sym e ∙ h.3), h.5, h.6)
whole_wrapped f text s start inside r stops e opening (inr h) =
    let same = spaces_off s h.0 start h.1 r h.3 stops (comp_stops f h.1 h.4) (sym e ∙ h.2) in
    let first = comp_first f h.1 h.4 in
    absurd (both_ways refl (subst (λ (n : ℕ). (n == 40) ≡ false) (head_eq (sym first.2 ∙ sym same ∙ opening)) first.4))

-- one that does not is what stands between parentheses
pub whole_bare : (f : FilterContent) (text s start : List ℕ) → Run is_space s → Stops is_space start → text ≡ s ++ start → Not_first 40 start → FilterText f text → IsFilterComp f start
whole_bare f text s start r stops e bare (inl h) =
    let same = spaces_off s h.0 start (h.1 ++ h.2) r h.4 stops (spells_stops f h.1 h.2 h.5) (sym e ∙ h.3) in
    absurd (not_first 40 start ((h.5.0 ++ 41 ∷ []) ++ h.2) refl bare (same ∙ ap (λ xs. xs ++ h.2) h.5.1))
whole_bare f text s start r stops e bare (inr h) = subst (IsFilterComp f) (sym (spaces_off s h.0 start h.1 r h.3 stops (comp_stops f h.1 h.4) (sym e ∙ h.2))) h.4

-- spaces at the end are all skipped
pub all_skipped : (z s rest : List ℕ) → Run is_space z → Run is_space s → Stops is_space rest → z ≡ s ++ rest → rest ≡ []
all_skipped z s rest q r stops e = sym (spaces_off z s [] rest q r tt stops (append-nil z ∙ e))

pub begins_within : (P : List ℕ → Type 0) (bytes : List ℕ) (left : ℕ) → Begins P bytes left → left ≤ length bytes
begins_within P bytes left b = let all = ap (λ xs. length xs) b.all ∙ length-append b.done b.rest in let end = b.from_end in omega (arith, all, end)

-- as a place from the front
pub begins_at : (P : List ℕ → Type 0) (bytes : List ℕ) (left : ℕ) → Begins P bytes left → (length bytes - left ≤ length bytes) × (more : List ℕ) × P (take (length bytes - left) bytes ++ more)
begins_at P bytes left b =
    let all = ap (λ xs. length xs) b.all ∙ length-append b.done b.rest in
    let end = b.from_end in
    let long : length b.done ≡ length bytes - left = omega (arith, all, end) in
    let front = ap (λ xs. take (length bytes - left) xs) b.all ∙ take_at b.done b.rest (length bytes - left) long in
    (omega arith, b.more, subst P (ap (λ xs. xs ++ b.more) (sym front)) b.viable)
