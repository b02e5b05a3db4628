-- The first block of several.
use Rattle.std.proofs.Common.{◌≡◌, ℕ, ◌+◌, ◌<◌, ◌≤◌, Bool, true, false, cond, List, [], ◌∷◌, ◌++◌, length, take, refl, sym, ap, ◌∙◌, append_assoc, arith}
use Rattle.std.proofs.lemmas.List.{length-take-le, length-append}
use Rattle.std.proofs.Math.Seq.{take-append-add}
use Rattle.std.specs.List.{AllByRecursion, onto_first}
use Rattle.ldif.specs.Reading.{is_dash, blocks}

-- these are lines of one block
abbrev pub ArePlain : List (List ℕ) → Type 0
ArePlain ls = AllByRecursion (λ l. is_dash l ≡ false) ls

first : (l : List ℕ) (ls : List (List ℕ)) (b : Bool) → is_dash l ≡ b → blocks (l ∷ ls) ≡ cond b ([] ∷ blocks ls) (onto_first l (blocks ls))
unfolding blocks
first l ls b e = ap (λ (t : Bool). cond t ([] ∷ blocks ls) (onto_first l (blocks ls))) e

-- up to the first `-`
pub blocks_at : (front : List (List ℕ)) (line : List ℕ) (after : List (List ℕ)) → ArePlain front → is_dash line ≡ true → blocks (front ++ line ∷ after) ≡ front ∷ blocks after
blocks_at [] line after plain e = first line after true e
blocks_at (l ∷ front) line after plain e =
    first l (front ++ line ∷ after) false plain.0
    ∙ ap (onto_first l) (blocks_at front line after plain.1 e)

-- without one
pub blocks_none : (front : List (List ℕ)) → 0 < length front → ArePlain front → blocks front ≡ front ∷ blocks []
unfolding blocks
blocks_none [] some plain = absurd (omega arith)
blocks_none (l ∷ []) some plain = first l [] false plain.0
blocks_none (l ∷ m ∷ front) some plain =
    first l (m ∷ front) false plain.0
    ∙ ap (onto_first l) (blocks_none (m ∷ front) (omega arith) plain.1)

pub blocks_nil : (ls : List (List ℕ)) → length ls ≡ 0 → blocks ls ≡ []
unfolding blocks
blocks_nil [] e = refl
blocks_nil (l ∷ ls) e = absurd (omega arith)

pub lines_nil : (ls : List (List ℕ)) → length ls ≡ 0 → ls ≡ []
lines_nil [] e = refl
lines_nil (l ∷ ls) e = absurd (omega arith)

pub plain_push : (front : List (List ℕ)) (line : List ℕ) → ArePlain front → is_dash line ≡ false → ArePlain (front ++ line ∷ [])
plain_push [] line plain e = (e, tt)
plain_push (l ∷ front) line plain e = (plain.0, plain_push front line plain.1 e)

-- one more line of the front
pub take_push : (n : ℕ) (ls : List (List ℕ)) (line : List ℕ) (after : List (List ℕ)) → n ≤ length ls → ls ≡ take n ls ++ line ∷ after → take (n + 1) ls ≡ take n ls ++ line ∷ []
take_push n ls line after within e =
    let len : length (take n ls) ≡ n = length-take-le n ls within in
    ap (take (n + 1)) e ∙ ap (λ (k : ℕ). take k (take n ls ++ line ∷ after)) (let same : n + 1 ≡ length (take n ls) + 1 = omega (arith, len) in same) ∙ take-append-add (take n ls) (line ∷ after) 1

pub rest_push : (n : ℕ) (ls : List (List ℕ)) (line : List ℕ) (after : List (List ℕ)) → n ≤ length ls → ls ≡ take n ls ++ line ∷ after → ls ≡ take (n + 1) ls ++ after
rest_push n ls line after within e = e ∙ sym (append_assoc (take n ls) (line ∷ []) after) ∙ ap (λ (front : List (List ℕ)). front ++ after) (sym (take_push n ls line after within e))

pub within_push : (n : ℕ) (ls : List (List ℕ)) (line : List ℕ) (after : List (List ℕ)) → n ≤ length ls → ls ≡ take n ls ++ line ∷ after → n + 1 ≤ length ls
within_push n ls line after within e = omega (arith, length-take-le n ls within, ap length e, length-append (take n ls) (line ∷ after))
