-- The last byte of a text, and spaces there.
use Rattle.std.proofs.Common.{◌≡◌, ℕ, ◌+◌, ◌-◌, ◌<◌, ◌≤◌, Bool, false, cond, eqb, List, [], ◌∷◌, ◌++◌, length, get_or, take, refl, sym, ap, ◌∙◌, arith}
use Rattle.std.proofs.lemmas.List.{take_more}
use Rattle.base.specs.Ends.{ends_with, onto_text, without_end}

pub end_space : (xs : List ℕ) → without_end (xs ++ 32 ∷ []) ≡ without_end xs
end_space [] = refl
end_space (x ∷ xs) = ap (onto_text x) (end_space xs)

onto_more : (x b : ℕ) (xs : List ℕ) → onto_text x (xs ++ b ∷ []) ≡ x ∷ (xs ++ b ∷ [])
onto_more x b [] = refl
onto_more x b (y ∷ xs) = refl

pub end_other : (xs : List ℕ) (b : ℕ) → eqb b 32 ≡ false → without_end (xs ++ b ∷ []) ≡ xs ++ b ∷ []
end_other [] b e = ap (λ (t : Bool). cond t [] (b ∷ [])) e
end_other (x ∷ xs) b e = ap (onto_text x) (end_other xs b e) ∙ onto_more x b xs

pub one_less : (text : List ℕ) (n : ℕ) → 0 < n → n ≤ length text → get_or text (n - 1) 0 ≡ 32 → without_end (take (n - 1) text) ≡ without_end (take n text)
one_less text n some within is =
    let cut : take n text ≡ take (n - 1) text ++ 32 ∷ [] = (let e : n ≡ n - 1 + 1 = omega arith in ap (λ (k : ℕ). take k text) e) ∙ take_more text (n - 1) 0 (omega arith) ∙ ap (λ (b : ℕ). take (n - 1) text ++ b ∷ []) is in
    sym (ap without_end cut ∙ end_space (take (n - 1) text))

pub no_less : (text : List ℕ) (n : ℕ) → 0 < n → n ≤ length text → eqb (get_or text (n - 1) 0) 32 ≡ false → without_end (take n text) ≡ take n text
no_less text n some within other =
    let cut : take n text ≡ take (n - 1) text ++ get_or text (n - 1) 0 ∷ [] = (let e : n ≡ n - 1 + 1 = omega arith in ap (λ (k : ℕ). take k text) e) ∙ take_more text (n - 1) 0 (omega arith) in
    ap without_end cut ∙ end_other (take (n - 1) text) (get_or text (n - 1) 0) other ∙ sym cut

pub ends_at : (x : ℕ) (xs : List ℕ) (byte : ℕ) → ends_with byte (x ∷ xs) ≡ eqb (get_or (x ∷ xs) (length xs) 0) byte
ends_at x [] byte = refl
ends_at x (y ∷ ys) byte = ends_at y ys byte

pub ends_is : (xs : List ℕ) (byte n : ℕ) → 0 < length xs → n + 1 ≡ length xs → ends_with byte xs ≡ eqb (get_or xs n 0) byte
ends_is [] byte n some e = absurd (omega arith)
ends_is (x ∷ xs) byte n some e = let k : length xs ≡ n = omega arith in ends_at x xs byte ∙ ap (λ (i : ℕ). eqb (get_or (x ∷ xs) i 0) byte) k
