-- A text cut at the first byte of a kind.
use Rattle.std.proofs.Common.{rules, tests, ◌≡◌, ℕ, ◌+◌, ◌-◌, ◌<◌, ◌≤◌, Bool, true, false, cond, List, [], ◌∷◌, ◌++◌, length, get_or, take, drop, Some, None, All, refl, sym, ap, ◌∙◌, arith}
use Rattle.std.specs.List.{slice_split, onto_first}
use Rattle.std.proofs.lemmas.List.{take-append-drop, drop_more, get_or-take, get_or_default, length-take, length-drop, take_all}
use Rattle.std.proofs.lemmas.List.Splits.{slice_split_at, slice_split_none}
use Rattle.std.proofs.lemmas.Bool.{eqb-true, false_from_ne_true}
use Rattle.memchr.specs.Find.{IsFirstByte, is_byte, Passes}
use Rattle.stored_index.specs.Cuts.{parts}
use Rattle.stored_index.specs.inner.Lines.{IsCutAt}

-- a list that isn't empty
abbrev pub IsCons : {X : Type 0} → List X → Type 0
IsCons {X} xs = (y : X) × (more : List X) × (xs ≡ y ∷ more)

cond_cons : {X : Type 0} (b : Bool) (parts more : List (List X)) (x : X) → IsCons (cond b ([] ∷ parts) (onto_first x more))
cond_cons true parts more x = ([], parts, refl)
cond_cons false parts [] x = (x ∷ [], [], refl)
cond_cons false parts (y ∷ ys) x = (x ∷ y, ys, refl)

-- a cut has a first part
pub split_cons : {X : Type 0} (p : X → Bool) (xs : List X) → IsCons (slice_split p xs)
split_cons p [] = ([], [], refl)
split_cons p (x ∷ xs) = cond_cons (p x) (slice_split p xs) (slice_split p xs) x

none_before : (byte : ℕ) (text : List ℕ) (i : ℕ) → i ≤ length text → ((k : ℕ) → k < i → Passes (is_byte byte) text k → ⊥) → All (λ b. is_byte byte b ≡ false) (take i text)
none_before byte text i fits h k d lt =
    let below : k < i = omega (arith, length-take i text) in
    let same : get_or (take i text) k d ≡ get_or text k 0 = get_or-take i text k d below ∙ get_or_default text k d 0 (omega arith) in
    false_from_ne_true _ (λ e. h k below (ap (is_byte byte) (sym same) ∙ e))

pub cut_first : (byte : ℕ) (text : List ℕ) (i : ℕ) → IsFirstByte (is_byte byte) text (Some i) → parts byte text ≡ take i text ∷ parts byte (drop (i + 1) text)
cut_first byte text i h =
    let lt : i < length text = h.0.high in
    let none = none_before byte text i (omega arith) (λ k below. h.0.before k (omega arith) below) in
    let at : get_or text i 0 ≡ byte = eqb-true _ _ h.1 in
    let cut : text ≡ take i text ++ byte ∷ drop (i + 1) text =
    sym (take-append-drop i text) ∙ ap (λ (r : List ℕ). take i text ++ r) (drop_more text i 0 lt ∙ ap (λ (b : ℕ). b ∷ drop (i + 1) text) at) in
    ap (slice_split (is_byte byte)) cut ∙ slice_split_at (is_byte byte) (take i text) byte (drop (i + 1) text) none (search (rules, tests))

-- a text cut at its first line feed
pub first_cut : (text : List ℕ) (i : ℕ) → IsFirstByte (is_byte 10) text (Some i) → IsCutAt text (take i text) (take (length text - (i + 1)) (drop (i + 1) text))
first_cut text i h =
    let lt : i < length text = h.0.high in
    let at : get_or text i 0 ≡ 10 = eqb-true _ _ h.1 in
    let rest : take (length text - (i + 1)) (drop (i + 1) text) ≡ drop (i + 1) text = take_all (length text - (i + 1)) (drop (i + 1) text) (omega (arith, length-drop (i + 1) text)) in
    record {
      text_is = sym (take-append-drop i text) ∙ ap (λ (r : List ℕ). take i text ++ r) (drop_more text i 0 lt ∙ ap (λ (b : ℕ). b ∷ drop (i + 1) text) at ∙ ap (λ (r : List ℕ). 10 ∷ r) (sym rest));
      none = none_before 10 text i (omega arith) (λ k below. h.0.before k (omega arith) below);
    }

pub cut_none : (byte : ℕ) (text : List ℕ) → IsFirstByte (is_byte byte) text None → parts byte text ≡ text ∷ []
cut_none byte text h =
    let none : All (λ b. is_byte byte b ≡ false) text = λ k d lt. false_from_ne_true _ (λ e. h k (omega arith) lt (ap (is_byte byte) (get_or_default text k 0 d lt) ∙ e)) in
    slice_split_none (is_byte byte) text none

-- the same, as a slice is cut
pub cut_at : (byte : ℕ) (text : List ℕ) (i : ℕ) → IsFirstByte (is_byte byte) text (Some i) → parts byte text ≡ take i text ∷ parts byte (take (length text - (i + 1)) (drop (i + 1) text))
cut_at byte text i h =
    let e : take (length text - (i + 1)) (drop (i + 1) text) ≡ drop (i + 1) text = take_all (length text - (i + 1)) (drop (i + 1) text) (omega (arith, length-drop (i + 1) text)) in
    cut_first byte text i h ∙ ap (λ (r : List ℕ). take i text ∷ parts byte r) (sym e)
