-- Spaces before and after a text.
use Rattle.std.proofs.Common.{◌≡◌, ℕ, zero, suc, Bool, true, false, cond, eqb, List, [], ◌∷◌, ◌++◌, replicate, Result, Ok, refl, sym, ap, ◌∙◌, append_assoc}
use Rattle.std.proofs.lemmas.List.{append-nil}
use Rattle.std.proofs.lemmas.Bool.{eqb-true}
use Rattle.base.specs.Ends.{begins_with, without_front, without_end, onto_text, ends_with}
use Rattle.ldif.specs.Forms.{IsTrimmed}
use Rattle.ldif.specs.Line.{form_of}
use Rattle.ldif.specs.declared.fault.LdifFaultKind.{LdifFaultKind}
use Rattle.base.proofs.LastByte.{end_space}

Front : ℕ → List ℕ → Bool → Type 0
Front b bs t = (n : ℕ) × (b ∷ bs ≡ replicate n 32 ++ cond t (without_front bs) (b ∷ bs)) × (begins_with 32 (cond t (without_front bs) (b ∷ bs)) ≡ false)

front_step : (b : ℕ) (bs : List ℕ) (t : Bool) → eqb b 32 ≡ t → ((n : ℕ) × (bs ≡ replicate n 32 ++ without_front bs) × (begins_with 32 (without_front bs) ≡ false)) → Front b bs t
unfolding Front
front_step b bs true e r = (suc r.0, ap (λ (x : ℕ). x ∷ bs) (eqb-true b 32 e) ∙ ap (λ (x : List ℕ). 32 ∷ x) r.1, r.2)
front_step b bs false e r = (0, refl, e)

pub front_is : (xs : List ℕ) → (n : ℕ) × (xs ≡ replicate n 32 ++ without_front xs) × (begins_with 32 (without_front xs) ≡ false)
unfolding Front
front_is [] = (0, refl, refl)
front_is (b ∷ bs) = front_step b bs (eqb b 32) refl (front_is bs)

onto_is : (b : ℕ) (ys : List ℕ) (n : ℕ) (t : Bool) → eqb b 32 ≡ t → (m : ℕ) × (b ∷ (ys ++ replicate n 32) ≡ onto_text b ys ++ replicate m 32)
onto_is b (y ∷ ys) n t e = (n, refl)
onto_is b [] n true e = (suc n, ap (λ (x : ℕ). x ∷ replicate n 32) (eqb-true b 32 e) ∙ sym (ap (λ (u : Bool). cond u [] (b ∷ []) ++ replicate (suc n) 32) e))
onto_is b [] n false e = (n, sym (ap (λ (u : Bool). cond u [] (b ∷ []) ++ replicate n 32) e))

pub end_is : (xs : List ℕ) → (n : ℕ) × (xs ≡ without_end xs ++ replicate n 32)
end_is [] = (0, refl)
end_is (b ∷ bs) =
    let r = end_is bs in
    let k = onto_is b (without_end bs) r.0 (eqb b 32) refl in
    (k.0, ap (λ (x : List ℕ). b ∷ x) r.1 ∙ k.1)

pub skip : (n : ℕ) (xs : List ℕ) → without_front (replicate n 32 ++ xs) ≡ without_front xs
skip zero xs = refl
skip (suc n) xs = skip n xs

abbrev plain_form : List ℕ → Result (List ℕ) LdifFaultKind
plain_form text = Ok text

no_front : (xs : List ℕ) → begins_with 32 xs ≡ false → without_front xs ≡ xs
no_front [] e = refl
no_front (b ∷ bs) e = ap (λ (t : Bool). cond t (without_front bs) (b ∷ bs)) e

-- one space and no further one
pub one_space : (rest value : List ℕ) → rest ≡ 32 ∷ value → begins_with 32 value ≡ false → form_of rest ≡ Ok value
unfolding form_of
one_space rest value is none = ap form_of is ∙ ap (λ (xs : List ℕ). plain_form xs) (no_front value none)

pub cut_end : (xs : List ℕ) (n : ℕ) → without_end (xs ++ replicate n 32) ≡ without_end xs
cut_end xs zero = ap without_end (append-nil xs)
cut_end xs (suc n) = ap without_end (sym (append_assoc xs (32 ∷ []) (replicate n 32))) ∙ cut_end (xs ++ 32 ∷ []) n ∙ end_space xs

-- ---- a text less the spaces at its end

no_end : (xs : List ℕ) → ends_with 32 xs ≡ false → without_end xs ≡ xs
no_end [] e = refl
no_end (b ∷ []) e = ap (λ (t : Bool). cond t [] (b ∷ [])) e
no_end (b ∷ c ∷ cs) e = ap (onto_text b) (no_end (c ∷ cs) e)

onto_ends : (b : ℕ) (ys : List ℕ) (t : Bool) → eqb b 32 ≡ t → ends_with 32 ys ≡ false → ends_with 32 (onto_text b ys) ≡ false
onto_ends b [] true e h = ap (λ (u : Bool). ends_with 32 (cond u [] (b ∷ []))) e
onto_ends b [] false e h = ap (λ (u : Bool). ends_with 32 (cond u [] (b ∷ []))) e ∙ e
onto_ends b (y ∷ ys) t e h = h

ends_without : (xs : List ℕ) → ends_with 32 (without_end xs) ≡ false
ends_without [] = refl
ends_without (b ∷ bs) = onto_ends b (without_end bs) (eqb b 32) refl (ends_without bs)

pub trimmed_found : (text : List ℕ) → IsTrimmed text (without_end text)
trimmed_found text = let r = end_is text in record { spaces = r.0; is = r.1; end = ends_without text }

pub trimmed_only : (text trimmed : List ℕ) → IsTrimmed text trimmed → without_end text ≡ trimmed
trimmed_only text trimmed h = ap without_end h.is ∙ cut_end trimmed h.spaces ∙ no_end trimmed h.end
