-- Numbers as they are written, and as they are read.
use Rattle.std.proofs.Common.{◌≡◌, ℕ, ◌+◌, ◌*◌, ◌-◌, ◌/◌, ◌%◌, ◌<◌, ◌≤◌, ◌^◌, ◌==◌, Bool, true, false, cond, nat_lt, List, [], ◌∷◌, ◌++◌, length, get_or, All, Ok, Err, Result, decimal, refl, sym, ap, ◌∙◌, subst, arith, append_assoc}
use Rattle.std.proofs.lemmas.Bool.{eqb-true, false_from_ne_true}
use Rattle.std.proofs.lemmas.Bool.Decides.{nat_tests}
use Rattle.std.proofs.lemmas.List.{append-nil}
use Rattle.std.proofs.lemmas.List.Elements.{All-nil, All-cons}
use Rattle.std.proofs.lemmas.Fmt.{decimal_step, decimal_digit, decimal_by_steps, length-decimal-le, first_decimal, decimal_nonempty}
use Rattle.std.specs.Char.{is_ascii_digit}
use Rattle.memchr.specs.Find.{is_byte}
use Rattle.stored_index.specs.Words.{is_empty, has_number_form, number_after, number_in}
use Rattle.stored_index.specs.declared.fault.IndexFaultKind.{IndexFaultKind}
use Rattle.stored_index.specs.declared.fault.IndexFaultKind.TheVariants.{Form}
use Rattle.stored_index.proofs.NumberLemmas.{grows, within_ten}

abbrev Number : Type 0
Number = Result ℕ IndexFaultKind

abbrev number : ℕ → Number
number n = Ok n

-- none of these is that byte
abbrev pub Lacks : ℕ → List ℕ → Type 0
Lacks c xs = All (λ b. is_byte c b ≡ false) xs

-- ---- what is read is written so

-- one digit more
more_digit : (m b i : ℕ) → 0 < m → m < 10 ^ i → i + 1 ≤ 10 → is_ascii_digit b ≡ true → decimal (m * 10 + (b - 48)) ≡ decimal m ++ b ∷ []
more_digit m b i some small le d =
    let bound : m * 10 + (b - 48) < 10 ^ 10 = within_ten (m * 10 + (b - 48)) (i + 1) le (grows m b i d small) in
    let low : 48 ≤ b = grind (arith, nat_tests) in
    let high : b ≤ 57 = grind (arith, nat_tests) in
    let front : (m * 10 + (b - 48)) / 10 ≡ m = omega arith in
    let end : 48 + (m * 10 + (b - 48)) % 10 ≡ b = omega arith in
    decimal_step (m * 10 + (b - 48)) (omega arith) (omega arith) ∙ (λ j. decimal (front j) ++ (end j ∷ []))

-- what a test lets through
pub test_ok : {X : Type 0} (d : Bool) (r : Result X IndexFaultKind) (fault : IndexFaultKind) (x : X) → cond d r (Err fault) ≡ Ok x → (d ≡ true) × (r ≡ Ok x)
test_ok true r fault x e = (refl, e)
test_ok false r fault x e = absurd cc

after_writes : (m : ℕ) (bs : List ℕ) (n i : ℕ) → 0 < m → m < 10 ^ i → i + length bs ≤ 10 → number_after m bs ≡ Ok n → (decimal n ≡ decimal m ++ bs) × (n < 10 ^ 10)
unfolding number_after
after_writes m [] n i some small le e =
    let same : m ≡ n = cc in
    (sym (ap decimal same) ∙ sym (append-nil (decimal m)), subst (λ (k : ℕ). k < 10 ^ 10) same (within_ten m i (omega arith) small))
after_writes m (b ∷ bs) n i some small le e =
    let here = test_ok (is_ascii_digit b) (number_after (m * 10 + (b - 48)) bs) Form n e in
    let rest = after_writes (m * 10 + (b - 48)) bs n (i + 1) (omega arith) (grows m b i here.0 small) (omega arith) here.1 in
    (rest.0 ∙ ap (λ (front : List ℕ). front ++ bs) (more_digit m b i some small (omega arith) here.0) ∙ append_assoc (decimal m) (b ∷ []) bs, rest.1)

zero_by : (b : ℕ) (bs : List ℕ) (n : ℕ) → b ≡ 48 → cond (is_empty bs) (number_after 0 (b ∷ bs)) (Err Form) ≡ Ok n → (b ∷ bs ≡ decimal n) × (n < 10 ^ 10)
unfolding number_after
zero_by b [] n is e =
    let here : number 0 ≡ Ok n = sym (ap (λ (c : ℕ). number_after 0 (c ∷ [])) is) ∙ e in
    let same : 0 ≡ n = cc in
    (ap (λ (c : ℕ). c ∷ []) is ∙ sym (decimal_digit 0 (omega arith)) ∙ ap decimal same, omega arith)
zero_by b (c ∷ cs) n is e = absurd cc

some_digit : (d : Bool) (b : ℕ) (bs : List ℕ) (n : ℕ) → (b == 48) ≡ false → length bs < 10 → is_ascii_digit b ≡ d → cond d (number_after (0 * 10 + (b - 48)) bs) (Err Form) ≡ Ok n
    → (b ∷ bs ≡ decimal n) × (n < 10 ^ 10)
some_digit true b bs n other few d e =
    let low : 48 < b = grind (arith, nat_tests) in
    let high : b ≤ 57 = grind (arith, nat_tests) in
    let rest = after_writes (0 * 10 + (b - 48)) bs n 1 (omega arith) (omega arith) (omega arith) e in
    let is : 48 + (0 * 10 + (b - 48)) ≡ b = omega arith in
    (sym (rest.0 ∙ ap (λ (front : List ℕ). front ++ bs) (decimal_digit (0 * 10 + (b - 48)) (omega arith) ∙ ap (λ (c : ℕ). c ∷ []) is)), rest.1)
some_digit false b bs n other few d e = absurd cc

other_by : (few : Bool) (b : ℕ) (bs : List ℕ) (n : ℕ) → (b == 48) ≡ false → nat_lt (length bs) 10 ≡ few → cond few (number_after 0 (b ∷ bs)) (Err Form) ≡ Ok n → (b ∷ bs ≡ decimal n) × (n < 10 ^ 10)
unfolding number_after
other_by true b bs n other few e = some_digit (is_ascii_digit b) b bs n other (grind (arith, nat_tests)) refl e
other_by false b bs n other few e = absurd cc

first_by : (z : Bool) (b : ℕ) (bs : List ℕ) (n : ℕ) → (b == 48) ≡ z → cond (cond z (is_empty bs) (nat_lt (length bs) 10)) (number_after 0 (b ∷ bs)) (Err Form) ≡ Ok n → (b ∷ bs ≡ decimal n) × (n < 10 ^ 10)
first_by true b bs n is e = zero_by b bs n (eqb-true b 48 is) e
first_by false b bs n is e = other_by (nat_lt (length bs) 10) b bs n is refl e

pub number_writes : (word : List ℕ) (n : ℕ) → number_in word ≡ Ok n → (word ≡ decimal n) × (n < 10 ^ 10)
unfolding number_in
number_writes [] n e = absurd cc
number_writes (b ∷ bs) n e = first_by (b == 48) b bs n refl e

-- ---- what is written is read so

one_digit : (m : ℕ) (rest : List ℕ) → m < 10 → (k : ℕ) → number_after k ((48 + m) ∷ rest) ≡ number_after (k * 10 + m) rest
unfolding number_after
one_digit m rest lt k =
    let digit : is_ascii_digit (48 + m) ≡ true = grind (arith, nat_tests) in
    let same : (48 + m) - 48 ≡ m = omega arith in
    ap (λ (d : Bool). cond d (number_after (k * 10 + ((48 + m) - 48)) rest) (Err Form)) digit ∙ ap (λ (x : ℕ). number_after (k * 10 + x) rest) same

digits_read : (n : ℕ) → n < 2 ^ 64 → (rest : List ℕ) → number_after 0 (decimal n ++ rest) ≡ number_after n rest
digits_read = decimal_by_steps (λ m ds. (rest : List ℕ) → number_after 0 (ds ++ rest) ≡ number_after m rest)
    (λ m lt rest. one_digit m rest lt 0 ∙ ap (λ (x : ℕ). number_after x rest) (let e : 0 * 10 + m ≡ m = omega arith in e))
    (λ m ds le ih rest.
    ap (number_after 0) (append_assoc ds ((48 + m % 10) ∷ []) rest)
    ∙ ih ((48 + m % 10) ∷ rest)
    ∙ one_digit (m % 10) rest (omega arith) (m / 10)
    ∙ ap (λ (x : ℕ). number_after x rest) (let e : m / 10 * 10 + m % 10 ≡ m = omega arith in e))

form_by : (ds : List ℕ) → 0 < length ds → length ds ≤ 10 → 48 < get_or ds 0 0 → has_number_form ds ≡ true
form_by [] some few first = absurd (omega arith)
form_by (b ∷ bs) some few first =
    let other : (b == 48) ≡ false = grind (arith, nat_tests) in
    let short : nat_lt (length bs) 10 ≡ true = grind (arith, nat_tests) in
    ap (λ (z : Bool). cond z (is_empty bs) (nat_lt (length bs) 10)) other ∙ short

has_form : (n : ℕ) → n < 10 ^ 10 → has_number_form (decimal n) ≡ true
has_form n small = form_of n small (n == 0) refl
  where
    form_of : (n : ℕ) → n < 10 ^ 10 → (z : Bool) → (n == 0) ≡ z → has_number_form (decimal n) ≡ true
    form_of n small true is = ap (λ (k : ℕ). has_number_form (decimal k)) (eqb-true n 0 is) ∙ ap has_number_form (decimal_digit 0 (omega arith))
    form_of n small false is =
        let some : 0 < n = grind (arith, nat_tests) in
        form_by (decimal n) (decimal_nonempty n (omega arith)) (length-decimal-le 10 n (omega arith) small (omega arith)) (first_decimal n some (omega arith))

pub number_read : (n : ℕ) → n < 10 ^ 10 → number_in (decimal n) ≡ Ok n
unfolding number_in number_after
number_read n small =
    ap (λ (f : Bool). cond f (number_after 0 (decimal n)) (Err Form)) (has_form n small)
    ∙ ap (number_after 0) (sym (append-nil (decimal n)))
    ∙ digits_read n (omega arith) []

-- ---- what is a number has no other bytes than digits

pub after_lacks : (c m : ℕ) (bs : List ℕ) (n : ℕ) → is_ascii_digit c ≡ false → number_after m bs ≡ Ok n → Lacks c bs
unfolding number_after
after_lacks c m [] n other e = All-nil (λ b. is_byte c b ≡ false)
after_lacks c m (b ∷ bs) n other e =
    let first = test_ok (is_ascii_digit b) (number_after (m * 10 + (b - 48)) bs) Form n e in
    let here : is_byte c b ≡ false = false_from_ne_true (is_byte c b) (λ is. let both : true ≡ false = sym first.0 ∙ ap is_ascii_digit (eqb-true b c is) ∙ other in absurd cc) in
    All-cons (λ b. is_byte c b ≡ false) b bs here (after_lacks c (m * 10 + (b - 48)) bs n other first.1)

pub decimal_lacks : (c n : ℕ) → is_ascii_digit c ≡ false → n < 2 ^ 64 → Lacks c (decimal n)
unfolding number_after
decimal_lacks c n other small = after_lacks c 0 (decimal n) n other (ap (number_after 0) (sym (append-nil (decimal n))) ∙ digits_read n small [])
