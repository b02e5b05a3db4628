-- What was there stands in front, through all that is put behind it.
use Rattle.std.proofs.Common.{◌≡◌, ℕ, zero, suc, ◌≤◌, List, [], ◌∷◌, ◌++◌, length, take, Result, Ok, Err, refl, sym, ap, ◌∙◌, arith}
use Rattle.std.specs.Prelude.{OnErr}
use Rattle.std.proofs.lemmas.List.{length-take, take_all}
use Rattle.std.proofs.Math.Seq.{take-append_seam}
use Rattle.base.specs.Extends.{Extends}

pub extends_same : {A : Type 0} (xs : List A) → Extends xs xs
extends_same xs = take_all (length xs) xs (omega arith)

pub extends_put : {A : Type 0} (before more : List A) → Extends before (before ++ more)
extends_put before more = take-append_seam before more

take_less : {A : Type 0} (n m : ℕ) (xs : List A) → n ≤ m → take n (take m xs) ≡ take n xs
take_less zero m xs le = refl
take_less (suc n) zero xs le = absurd (omega arith)
take_less (suc n) (suc m) [] le = refl
take_less {A} (suc n) (suc m) (x ∷ xs) le = ap (λ (ys : List A). x ∷ ys) (take_less n m xs (omega arith))

-- one step after the other
pub extends_on : {A : Type 0} (a b c : List A) → Extends a b → Extends b c → Extends a c
extends_on {A} a b c first next =
    let shorter : length a ≤ length b = omega (arith, ap (λ (xs : List A). length xs) first, length-take (length a) b) in
    sym (take_less (length a) (length b) c shorter) ∙ ap (take (length a)) next ∙ first

-- what holds anyway holds where memory ran out
pub on_err_too : {T E : Type 0} {P : Type 0} (r : Result T E) → P → OnErr r P
on_err_too (Ok x) p = tt
on_err_too (Err e) p = p
