-- The loops that write.
use Rattle.std.proofs.Common.{◌≡◌, ℕ, suc, ◌+◌, ◌-◌, ◌/◌, ◌%◌, ◌<◌, ◌≤◌, Bool, true, false, not, cond, eqb, List, [], ◌∷◌, ◌++◌, length, get_or, drop, refl, sym, ap, ◌∙◌, append_assoc, arith, add-one}
use Rattle.std.specs.Prelude.{◌&&◌, ◌||◌}
use Rattle.std.specs.List.{list_all}
use Rattle.std.proofs.lemmas.List.{append-nil, drop_more, drop_all, length-drop}
use Rattle.std.proofs.lemmas.Bool.{and_parts, eqb-true, not-true, false_from_ne_true}
use Rattle.std.proofs.lemmas.Bool.Decides.{nat_tests}
use Rattle.dn.specs.Spelling.{may_stand}
use Rattle.dn.specs.Writing.{is_nothing, digit, needs_pair, stands, always_stands, written, text_from, value_text}

-- ---- a value

suc_is_no : (n : ℕ) → false ≡ eqb (suc n) 0
suc_is_no n = sym (false_from_ne_true _ (λ h. absurd (let k = eqb-true _ _ h in omega arith)))

last_at : (i n m : ℕ) → i < n → m ≡ n - (i + 1) → eqb (i + 1) n ≡ eqb m 0
last_at i n m lt e = grind (arith, nat_tests)

last_is : (xs : List ℕ) → is_nothing xs ≡ eqb (length xs) 0
last_is [] = refl
last_is (x ∷ xs) = suc_is_no (length xs)

pub text_more : (out new value : List ℕ) (i b : ℕ) → i < length value → b ≡ get_or value i 0 → new ≡ out ++ written (eqb i 0) (eqb (i + 1) (length value)) b
    → new ++ text_from (eqb (i + 1) 0) (drop (i + 1) value) ≡ out ++ text_from (eqb i 0) (drop i value)
unfolding text_from
text_more out new value i b lt is e =
    let rest = drop (i + 1) value in
    let split : drop i value ≡ b ∷ rest = drop_more value i 0 lt ∙ ap (λ (x : ℕ). x ∷ rest) (sym is) in
    let last : eqb (i + 1) (length value) ≡ is_nothing rest = last_at i (length value) (length rest) lt (length-drop (i + 1) value) ∙ sym (last_is rest) in
    let not_first : eqb (i + 1) 0 ≡ false = rw add-one (sym (suc_is_no i)) in
    ap (λ (x : List ℕ). x ++ text_from (eqb (i + 1) 0) rest) e
    ∙ ap (λ (f : Bool). (out ++ written (eqb i 0) (eqb (i + 1) (length value)) b) ++ text_from f rest) not_first
    ∙ ap (λ (l : Bool). (out ++ written (eqb i 0) l b) ++ text_from false rest) last
    ∙ append_assoc out (written (eqb i 0) (is_nothing rest) b) (text_from false rest)
    ∙ ap (λ (bs : List ℕ). out ++ text_from (eqb i 0) bs) (sym split)

pub text_done : (out value : List ℕ) (i : ℕ) (f : Bool) → length value ≤ i → out ++ text_from f (drop i value) ≡ out
unfolding text_from
text_done out value i f le = ap (λ (bs : List ℕ). out ++ text_from f bs) (drop_all i value le) ∙ append-nil out

anywhere : (may space sign first last : Bool) → may && not (space && (true || true)) && not (sign && true) ≡ true → may && not (space && (first || last)) && not (sign && first) ≡ true
anywhere true false false first last h = refl
anywhere true false true first last h = absurd cc
anywhere true true sign first last h = absurd cc
anywhere false space sign first last h = absurd cc

standing : (first last : Bool) (b : ℕ) → always_stands b ≡ true → written first last b ≡ b ∷ []
unfolding written
standing first last b h =
    let both = and_parts (not (needs_pair b)) (stands true true b) h in
    ap (λ pair. cond pair (92 ∷ digit (b / 16) ∷ digit (b % 16) ∷ []) (cond (stands first last b) (b ∷ []) (92 ∷ b ∷ []))) (not-true (needs_pair b) both.0)
    ∙ ap (λ stand. cond stand (b ∷ []) (92 ∷ b ∷ [])) (anywhere (may_stand b) (eqb b 32) (eqb b 35) first last both.1)

-- bytes that stand for themselves anywhere are their own text
standing_from : (first : Bool) (value : List ℕ) → list_all always_stands value ≡ true → text_from first value ≡ value
unfolding text_from
standing_from first [] h = refl
standing_from first (b ∷ bs) h =
    let both = and_parts (always_stands b) (list_all always_stands bs) h in
    (λ i. standing first (is_nothing bs) b both.0 i ++ standing_from false bs both.1 i)

pub text_of_standing : (value : List ℕ) → list_all always_stands value ≡ true → value ≡ value_text value
text_of_standing value h = sym (standing_from true value h)
