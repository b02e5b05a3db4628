-- How many parentheses are open at once.
use Rattle.std.proofs.Common.{◌≡◌, ℕ, ◌+◌, ◌<◌, ◌≤◌, ◌==◌, nat_lt, Bool, true, false, cond, List, [], ◌∷◌, ◌++◌, length, Option, Some, None, refl, sym, ap, subst, ◌∙◌, append_assoc, arith}
use Rattle.std.specs.Option.{MatchOption}
use Rattle.std.proofs.lemmas.Bool.Decides.{nat_tests}
use Rattle.std.proofs.lemmas.List.Sums.{sum_by-cons, sum_by-append}
use Rattle.base.specs.Ends.{without_front}
use Rattle.filter_text.specs.Depth.{opened, closed, added, added_before, Within, IsDeep, IsShallow, IsDeepAt}
use Rattle.filter_text.specs.inner.Depth.{deep_from}
use Rattle.filter_text.proofs.Runs.{head_eq, tail_eq}

abbrev one_open : ℕ → ℕ
one_open b = cond (b == 40) 1 0

abbrev one_closed : ℕ → ℕ
one_closed b = cond (b == 41) 1 0

opened_cons : (b : ℕ) (bytes : List ℕ) → opened (b ∷ bytes) ≡ one_open b + opened bytes
opened_cons b bytes = sum_by-cons one_open b bytes

closed_cons : (b : ℕ) (bytes : List ℕ) → closed (b ∷ bytes) ≡ one_closed b + closed bytes
closed_cons b bytes = sum_by-cons one_closed b bytes

-- some are open before the bytes, and some are closed
abbrev WithinBy : ℕ → ℕ → List ℕ → Type 0
WithinBy o c bytes = (front rest : List ℕ) → bytes ≡ front ++ rest → o + opened front ≤ c + closed front + 512

abbrev DeepBy : ℕ → ℕ → ℕ → List ℕ → ℕ → Type 0
DeepBy place o c bytes at = (front : List ℕ) × (rest : List ℕ) × (bytes ≡ front ++ 40 ∷ rest) × (place + length front ≡ at) × (o + opened front ≡ c + closed front + 512) × WithinBy o c front

nil_front : (front rest : List ℕ) → [] ≡ front ++ rest → front ≡ []
nil_front [] rest e = refl
nil_front (b ∷ front) rest e = absurd (let clash : [] ≡ b ∷ (front ++ rest) = e in cc)

within_none : (o c : ℕ) → o ≤ c + 512 → WithinBy o c []
within_none o c h front rest e = subst (λ (xs : List ℕ). o + opened xs ≤ c + closed xs + 512) (sym (nil_front front rest e)) (omega (arith, h))

within_more : (o c x y b : ℕ) (bytes : List ℕ) → o ≤ c + 512 → one_open b ≡ x → one_closed b ≡ y → WithinBy (o + x) (c + y) bytes → WithinBy o c (b ∷ bytes)
within_more o c x y b bytes h ex ey w [] rest e = omega (arith, h)
within_more o c x y b bytes h ex ey w (d ∷ front) rest e =
    let within = w front rest (tail_eq e) in
    let here = head_eq e in
    let open_d = opened_cons d front in
    let closed_d = closed_cons d front in
    let x_d = sym (ap one_open here) ∙ ex in
    let y_d = sym (ap one_closed here) ∙ ey in
    omega (arith, within, open_d, closed_d, x_d, y_d)

deep_more : (place o c x y b : ℕ) (bytes : List ℕ) (r : Option ℕ) → o ≤ c + 512 → one_open b ≡ x → one_closed b ≡ y
    → MatchOption r (WithinBy (o + x) (c + y) bytes) (DeepBy (place + 1) (o + x) (c + y) bytes) → MatchOption r (WithinBy o c (b ∷ bytes)) (DeepBy place o c (b ∷ bytes))
deep_more place o c x y b bytes None h ex ey w = within_more o c x y b bytes h ex ey w
deep_more place o c x y b bytes (Some at) h ex ey d =
    let at_d = d.3 in
    let full_d = d.4 in
    let open_d = opened_cons b d.0 in
    let closed_d = closed_cons b d.0 in
    (b ∷ d.0, d.1, ap (λ xs. b ∷ xs) d.2, omega (arith, at_d), omega (arith, full_d, open_d, closed_d, ex, ey), within_more o c x y b d.0 h ex ey d.5)

is_40 : (b : ℕ) → (b == 40) ≡ true → b ≡ 40
is_40 b e = grind (arith, nat_tests)

is_less : (m n : ℕ) → nat_lt m n ≡ true → m < n
is_less m n e = grind (arith, nat_tests)

is_not_less : (m n : ℕ) → nat_lt m n ≡ false → n ≤ m
is_not_less m n e = grind (arith, nat_tests)

less_is : (m n : ℕ) → m < n → nat_lt m n ≡ true
less_is m n e = grind (arith, nat_tests)

less_is_not : (m n : ℕ) → n ≤ m → nat_lt m n ≡ false
less_is_not m n e = grind (arith, nat_tests)

-- what the count gives from here
abbrev Exact : ℕ → ℕ → ℕ → List ℕ → Type 0
Exact place o c bytes = MatchOption (deep_from 512 place o c bytes) (WithinBy o c bytes) (DeepBy place o c bytes)

step : (place o c b : ℕ) (bytes : List ℕ) (t u v : Bool) → (b == 40) ≡ t → (b == 41) ≡ u → nat_lt (c + 512) (o + 1) ≡ v → o ≤ c + 512
    → ((p q r : ℕ) → q ≤ r + 512 → Exact p q r bytes)
    → MatchOption (cond t (cond v (Some place) (deep_from 512 (place + 1) (o + 1) c bytes)) (cond u (deep_from 512 (place + 1) o (c + 1) bytes) (deep_from 512 (place + 1) o c bytes)))
    (WithinBy o c (b ∷ bytes)) (DeepBy place o c (b ∷ bytes))
step place o c b bytes true u true et eu ev h rest =
    let more = is_less (c + 512) (o + 1) ev in
    ([], bytes, ap (λ n. n ∷ bytes) (is_40 b et), omega arith, omega (arith, more, h), within_none o c h)
step place o c b bytes true u false et eu ev h rest =
    let few = is_not_less (c + 512) (o + 1) ev in
    let next = rest (place + 1) (o + 1) c (omega (arith, few)) in
    deep_more place o c 1 0 b bytes (deep_from 512 (place + 1) (o + 1) c bytes) h (ap (λ z. cond z 1 0) et) (ap one_closed (is_40 b et))
    (subst (λ (n : ℕ). MatchOption (deep_from 512 (place + 1) (o + 1) c bytes) (WithinBy (o + 1) n bytes) (DeepBy (place + 1) (o + 1) n bytes)) (let e : c ≡ c + 0 = omega arith in e) next)
step place o c b bytes false true v et eu ev h rest =
    let next = rest (place + 1) o (c + 1) (omega (arith, h)) in
    deep_more place o c 0 1 b bytes (deep_from 512 (place + 1) o (c + 1) bytes) h (ap (λ z. cond z 1 0) et) (ap (λ z. cond z 1 0) eu)
    (subst (λ (n : ℕ). MatchOption (deep_from 512 (place + 1) o (c + 1) bytes) (WithinBy n (c + 1) bytes) (DeepBy (place + 1) n (c + 1) bytes)) (let e : o ≡ o + 0 = omega arith in e) next)
step place o c b bytes false false v et eu ev h rest =
    let next = rest (place + 1) o c h in
    let zero : (n : ℕ) → n ≡ n + 0 = λ n. omega arith in
    deep_more place o c 0 0 b bytes (deep_from 512 (place + 1) o c bytes) h (ap (λ z. cond z 1 0) et) (ap (λ z. cond z 1 0) eu)
    (subst (λ (n : ℕ). MatchOption (deep_from 512 (place + 1) o c bytes) (WithinBy (o + 0) n bytes) (DeepBy (place + 1) (o + 0) n bytes)) (zero c)
    (subst (λ (n : ℕ). MatchOption (deep_from 512 (place + 1) o c bytes) (WithinBy n c bytes) (DeepBy (place + 1) n c bytes)) (zero o) next))

exact : (bytes : List ℕ) (place o c : ℕ) → o ≤ c + 512 → Exact place o c bytes
exact [] place o c h = within_none o c h
exact (b ∷ bytes) place o c h = step place o c b bytes (b == 40) (b == 41) (nat_lt (c + 512) (o + 1)) refl refl refl h (λ p q r k. exact bytes p q r k)

-- where so many are open, the count says so
found_step : (place o c b : ℕ) (bytes : List ℕ) (at : ℕ) (t u v : Bool) → (b == 40) ≡ t → (b == 41) ≡ u → nat_lt (c + 512) (o + 1) ≡ v → o + one_open b ≤ c + one_closed b + 512
    → ((x y : ℕ) → one_open b ≡ x → one_closed b ≡ y → deep_from 512 (place + 1) (o + x) (c + y) bytes ≡ Some at)
    → cond t (cond v (Some place) (deep_from 512 (place + 1) (o + 1) c bytes)) (cond u (deep_from 512 (place + 1) o (c + 1) bytes) (deep_from 512 (place + 1) o c bytes)) ≡ Some at
found_step place o c b bytes at true u true et eu ev h rest =
    let more = is_less (c + 512) (o + 1) ev in
    let one : one_open b ≡ 1 = ap (λ z. cond z 1 0) et in
    let none : one_closed b ≡ 0 = ap one_closed (is_40 b et) in
    absurd (omega (arith, more, one, none, h))
found_step place o c b bytes at true u false et eu ev h rest =
    subst (λ (n : ℕ). deep_from 512 (place + 1) (o + 1) n bytes ≡ Some at) (let e : c + 0 ≡ c = omega arith in e) (rest 1 0 (ap (λ z. cond z 1 0) et) (ap one_closed (is_40 b et)))
found_step place o c b bytes at false true v et eu ev h rest =
    subst (λ (n : ℕ). deep_from 512 (place + 1) n (c + 1) bytes ≡ Some at) (let e : o + 0 ≡ o = omega arith in e) (rest 0 1 (ap (λ z. cond z 1 0) et) (ap (λ z. cond z 1 0) eu))
found_step place o c b bytes at false false v et eu ev h rest =
    let zero : (n : ℕ) → n + 0 ≡ n = λ n. omega arith in
    subst (λ (n : ℕ). deep_from 512 (place + 1) n c bytes ≡ Some at) (zero o)
    (subst (λ (n : ℕ). deep_from 512 (place + 1) (o + 0) n bytes ≡ Some at) (zero c) (rest 0 0 (ap (λ z. cond z 1 0) et) (ap (λ z. cond z 1 0) eu)))

within_less : (o c x y b : ℕ) (bytes : List ℕ) → one_open b ≡ x → one_closed b ≡ y → WithinBy o c (b ∷ bytes) → WithinBy (o + x) (c + y) bytes
within_less o c x y b bytes ex ey w front rest e =
    let within = w (b ∷ front) rest (ap (λ xs. b ∷ xs) e) in
    let open_b = opened_cons b front in
    let closed_b = closed_cons b front in
    omega (arith, within, open_b, closed_b, ex, ey)

found_by : (front rest : List ℕ) (place o c : ℕ) → o + opened front ≡ c + closed front + 512 → WithinBy o c front → deep_from 512 place o c (front ++ 40 ∷ rest) ≡ Some (place + length front)
found_by [] rest place o c full w =
    ap (λ z. cond z (Some place) (deep_from 512 (place + 1) (o + 1) c rest)) (less_is (c + 512) (o + 1) (omega (arith, full))) ∙ ap Some (let e : place ≡ place + 0 = omega arith in e)
found_by (b ∷ front) rest place o c full w =
    let one = w (b ∷ []) front refl in
    let open_1 = opened_cons b [] in
    let closed_1 = closed_cons b [] in
    let open_b = opened_cons b front in
    let closed_b = closed_cons b front in
    found_step place o c b (front ++ 40 ∷ rest) (place + length (b ∷ front)) (b == 40) (b == 41) (nat_lt (c + 512) (o + 1)) refl refl refl (omega (arith, one, open_1, closed_1))
    (λ x y ex ey. found_by front rest (place + 1) (o + x) (c + y) (omega (arith, full, open_b, closed_b, ex, ey)) (within_less o c x y b front ex ey w)
    ∙ ap Some (let e : place + 1 + length front ≡ place + length (b ∷ front) = omega arith in e))

-- ---- of a whole text

few_added : (bytes : List ℕ) → added_before bytes ≤ 1
few_added [] = omega arith
few_added (b ∷ bytes) = by_test (b == 40)
  where
    by_test : (t : Bool) → cond t 0 1 ≤ 1
    by_test true = omega arith
    by_test false = omega arith

whole : (before : ℕ) (bytes : List ℕ) (r : Option ℕ) → MatchOption r (WithinBy before 0 bytes) (DeepBy 0 before 0 bytes) → MatchOption r (Within before bytes) (IsDeep before bytes)
whole before bytes None w = λ front rest e. let within = w front rest e in omega (arith, within)
whole before bytes (Some at) d =
    let at_d = d.3 in
    let full_d = d.4 in
    record {
      front = d.0;
      rest = d.1;
      all = d.2;
      place = omega (arith, at_d);
      full = omega (arith, full_d);
      within = λ front rest e. let within = d.5 front rest e in omega (arith, within);
    }

pub deep_found : (text : List ℕ) → MatchOption (deep_from 512 0 (added text) 0 text) (IsShallow text) (IsDeepAt text)
deep_found text = whole (added text) text (deep_from 512 0 (added text) 0 text) (exact text 0 (added text) 0 (let few = few_added (without_front text) in omega (arith, few)))

pub deep_exact : (text : List ℕ) (at : ℕ) → IsDeepAt text at → deep_from 512 0 (added text) 0 text ≡ Some at
deep_exact text at d =
    let full_d = d.full in
    ap (deep_from 512 0 (added text) 0) d.all
    ∙ found_by d.front d.rest 0 (added text) 0 (omega (arith, full_d)) (λ front rest e. let within = d.within front rest e in omega (arith, within))
    ∙ ap Some (let at_d = d.place in let e : 0 + length d.front ≡ at = omega (arith, at_d) in e)

-- what is too deep isn't shallow
pub deep_or_shallow : (text : List ℕ) (at : ℕ) → IsDeepAt text at → IsShallow text → ⊥
deep_or_shallow text at d w =
    let full_d = d.full in
    let within = w (d.front ++ 40 ∷ []) d.rest (d.all ∙ sym (append_assoc d.front (40 ∷ []) d.rest)) in
    let open_d = sum_by-append one_open d.front (40 ∷ []) in
    let closed_d = sum_by-append one_closed d.front (40 ∷ []) in
    omega (arith, full_d, within, open_d, closed_d)
