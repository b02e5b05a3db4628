-- The spaces at the front.
use Rattle.std.proofs.Common.{◌≡◌, ℕ, suc, ◌+◌, Bool, true, false, cond, List, [], ◌∷◌, drop, refl, sym, ap, ◌∙◌, arith}
use Rattle.std.specs.List.{prefix_len}
use Rattle.base.specs.Ends.{is_space, without_front}

one : (n : ℕ) → 1 + n ≡ suc n
one n = omega arith

front_by : (b : ℕ) (bs : List ℕ) (t : Bool) → without_front bs ≡ drop (prefix_len is_space bs) bs → cond t (without_front bs) (b ∷ bs) ≡ drop (cond t (1 + prefix_len is_space bs) 0) (b ∷ bs)
front_by b bs true h = h ∙ sym (ap (λ (n : ℕ). drop n (b ∷ bs)) (one (prefix_len is_space bs)))
front_by b bs false h = refl

pub front_is : (text : List ℕ) → without_front text ≡ drop (prefix_len is_space text) text
front_is [] = refl
front_is (b ∷ bs) = front_by b bs (is_space b) (front_is bs)
