-- Numbers in groups of three digits.
use Rattle.std.proofs.Common.{◌≡◌, ℕ, ◌+◌, ◌/◌, ◌%◌, ◌<◌, ◌≤◌, ◌^◌, ◌∙◌, ap, refl, true, false, Bool, ◌&&◌, nat_lt, ◌==◌, if◌then◌else◌, List, [], ◌∷◌, ◌++◌, length, arith, length-append, append_assoc}
use Rattle.std.specs.Fmt.{decimal}
use Rattle.std.proofs.lemmas.Fmt.{decimal_step, decimal_nonempty, length-decimal-le}
use Rattle.std.proofs.lemmas.Bool.Decides.{nat_tests}
use Rattle.sentences.specs.Counts.{in_threes, grouped}

behind : (t u : Bool) (d : ℕ) (xs ys zs : List ℕ) → t ≡ u → xs ≡ ys ++ zs
    → (if t then d ∷ 44 ∷ xs else d ∷ xs) ≡ (if u then d ∷ 44 ∷ ys else d ∷ ys) ++ zs
behind t true d xs ys zs same parts = rw (same, parts) refl
behind t false d xs ys zs same parts = rw (same, parts) refl

-- three more digits stand behind a comma
in_threes_more : (ds : List ℕ) (a b c : ℕ) → 0 < length ds → in_threes (ds ++ (a ∷ b ∷ c ∷ [])) ≡ in_threes ds ++ (44 ∷ a ∷ b ∷ c ∷ [])
unfolding in_threes
in_threes_more [] a b c some = absurd (omega (arith, some))
in_threes_more (d ∷ []) a b c some = refl
in_threes_more (d ∷ e ∷ ds) a b c some =
    let rest = in_threes_more (e ∷ ds) a b c (omega arith) in
    let len : length (e ∷ (ds ++ (a ∷ b ∷ c ∷ []))) ≡ length (e ∷ ds) + 3 = simp (length-append) (omega arith) in
    let same : (nat_lt 0 (length (e ∷ (ds ++ (a ∷ b ∷ c ∷ [])))) && length (e ∷ (ds ++ (a ∷ b ∷ c ∷ []))) % 3 == 0) ≡ (nat_lt 0 (length (e ∷ ds)) && length (e ∷ ds) % 3 == 0) =
    grind (arith, nat_tests, len) in
    behind _ _ d _ _ _ same rest

-- so few digits take no comma
in_threes_few : (ds : List ℕ) → length ds ≤ 3 → in_threes ds ≡ ds
unfolding in_threes
in_threes_few [] few = refl
in_threes_few (a ∷ []) few = refl
in_threes_few (a ∷ b ∷ []) few = refl
in_threes_few (a ∷ b ∷ c ∷ []) few = refl
in_threes_few (a ∷ b ∷ c ∷ d ∷ ds) few = absurd (omega (arith, few))

pub grouped_few : (n : ℕ) → n < 1000 → grouped n ≡ decimal n
unfolding grouped
grouped_few n few = in_threes_few (decimal n) (length-decimal-le 3 n (omega arith) few (omega arith))

decimal_three : (n : ℕ) → 1000 ≤ n → n < 2 ^ 64 → decimal n ≡ decimal (n / 1000) ++ ((48 + n / 100 % 10) ∷ (48 + n / 10 % 10) ∷ (48 + n % 10) ∷ [])
decimal_three n many fits =
    let one = decimal_step n (omega arith) fits in
    let two = decimal_step (n / 10) (omega arith) (omega arith) in
    let three = decimal_step (n / 10 / 10) (omega arith) (omega arith) in
    let e : n / 10 / 10 ≡ n / 100 = omega arith in
    let f : n / 10 / 10 / 10 ≡ n / 1000 = omega arith in
    rw (one, two, three, f, e)
    (append_assoc (decimal (n / 1000) ++ ((48 + n / 100 % 10) ∷ [])) ((48 + n / 10 % 10) ∷ []) ((48 + n % 10) ∷ [])
    ∙ append_assoc (decimal (n / 1000)) ((48 + n / 100 % 10) ∷ []) ((48 + n / 10 % 10) ∷ (48 + n % 10) ∷ []))

pub grouped_more : (n : ℕ) → 1000 ≤ n → n < 2 ^ 64 → grouped n ≡ grouped (n / 1000) ++ (44 ∷ (48 + n / 100 % 10) ∷ (48 + n / 10 % 10) ∷ (48 + n % 10) ∷ [])
unfolding grouped
grouped_more n many fits =
    ap in_threes (decimal_three n many fits)
    ∙ in_threes_more (decimal (n / 1000)) (48 + n / 100 % 10) (48 + n / 10 % 10) (48 + n % 10) (decimal_nonempty (n / 1000) (omega arith))

-- behind a text that ends with all groups but the last
pub put_more : (n : ℕ) (out front new : List ℕ) → 1000 ≤ n → n < 2 ^ 64 → front ≡ out ++ grouped (n / 1000)
    → new ≡ front ++ (44 ∷ (48 + n / 100 % 10) ∷ (48 + n / 10 % 10) ∷ (48 + n % 10) ∷ []) → new ≡ out ++ grouped n
put_more n out front new many fits before put =
    rw (put, before, grouped_more n many fits) (append_assoc out (grouped (n / 1000)) (44 ∷ (48 + n / 100 % 10) ∷ (48 + n / 10 % 10) ∷ (48 + n % 10) ∷ []))
