-- A number that a text begins with.
use Rattle.std.proofs.Common.{◌≡◌, ℕ, ◌+◌, ◌*◌, ◌-◌, ◌<◌, ◌≤◌, Bool, true, cond, List, [], ◌∷◌, ◌++◌, length, get_or, take, drop, Ok, Err, refl, sym, ap, ◌∙◌, arith, append_assoc}
use Rattle.std.proofs.lemmas.List.{append-nil, take_more, take_all, take-append-drop, drop_more, length-drop}
use Rattle.std.specs.Char.{is_ascii_digit}
use Rattle.base.specs.Ascii.{space}
use Rattle.stored_index.specs.Cuts.{parts}
use Rattle.stored_index.specs.Words.{has_number_form, number_after, number_in}
use Rattle.stored_index.specs.declared.fault.IndexFaultKind.TheVariants.{Form}
use Rattle.stored_index.proofs.NumberLaws.{Lacks, after_lacks}
use Rattle.stored_index.proofs.RowLaws.{parts_word, parts_at}

-- so many bytes at the front are the digits of this number
abbrev pub AreDigits : List ℕ → ℕ → ℕ → Type 0
AreDigits text at n = (rest : List ℕ) → number_after 0 (take at text ++ rest) ≡ number_after n rest

pub one_more : (text : List ℕ) (at n : ℕ) → at < length text → is_ascii_digit (get_or text at 0) ≡ true → AreDigits text at n → AreDigits text (at + 1) (n * 10 + (get_or text at 0 - 48))
unfolding number_after
one_more text at n lt digit so_far rest =
    let b = get_or text at 0 in
    ap (λ (front : List ℕ). number_after 0 (front ++ rest)) (take_more text at 0 lt)
    ∙ ap (number_after 0) (append_assoc (take at text) (b ∷ []) rest)
    ∙ so_far (b ∷ rest)
    ∙ ap (λ (d : Bool). cond d (number_after (n * 10 + (b - 48)) rest) (Err Form)) digit

pub all_of_them : (text : List ℕ) (at n : ℕ) → AreDigits text at n → number_after 0 (take at text) ≡ Ok n
unfolding number_after
all_of_them text at n are = ap (number_after 0) (sym (append-nil (take at text))) ∙ are []

pub is_number : (word : List ℕ) (n : ℕ) → has_number_form word ≡ true → number_after 0 word ≡ Ok n → number_in word ≡ Ok n
unfolding number_in
is_number word n form is = ap (λ (f : Bool). cond f (number_after 0 word) (Err Form)) form ∙ is

lacks_space : (text : List ℕ) (at n : ℕ) → number_after 0 (take at text) ≡ Ok n → Lacks space (take at text)
lacks_space text at n is = after_lacks space 0 (take at text) n refl is

pub at_end : (text : List ℕ) (at n : ℕ) → length text ≤ at → number_after 0 (take at text) ≡ Ok n → parts space text ≡ take at text ∷ []
at_end text at n le is =
    ap (parts space) (sym (take_all at text le)) ∙ parts_word space (take at text) (lacks_space text at n is)

pub at_space : (text : List ℕ) (at n : ℕ) → at < length text → get_or text at 0 ≡ space → number_after 0 (take at text) ≡ Ok n
    → parts space text ≡ take at text ∷ parts space (take (length text - (at + 1)) (drop (at + 1) text))
at_space text at n lt here is =
    let cut : text ≡ take at text ++ space ∷ drop (at + 1) text =
    sym (take-append-drop at text) ∙ ap (λ (r : List ℕ). take at text ++ r) (drop_more text at 0 lt ∙ ap (λ (b : ℕ). b ∷ drop (at + 1) text) here) in
    let whole : take (length text - (at + 1)) (drop (at + 1) text) ≡ drop (at + 1) text = take_all (length text - (at + 1)) (drop (at + 1) text) (omega (arith, length-drop (at + 1) text)) in
    ap (parts space) cut ∙ parts_at space (take at text) (drop (at + 1) text) refl (lacks_space text at n is) ∙ ap (λ (r : List ℕ). take at text ∷ parts space r) (sym whole)

-- ---- words of five digits

one_digit : (k b v : ℕ) (rest : List ℕ) → (is_ascii_digit b ≡ true) × (b ≡ 48 + v) → number_after k (b ∷ rest) ≡ number_after (k * 10 + v) rest
unfolding number_after
one_digit k b v rest h =
    let same : b - 48 ≡ v = omega (arith, h.1) in
    ap (λ (d : Bool). cond d (number_after (k * 10 + (b - 48)) rest) (Err Form)) h.0 ∙ ap (λ (x : ℕ). number_after (k * 10 + x) rest) same

pub five_digits : (a b c d e v w x y z : ℕ) → (is_ascii_digit a ≡ true) × (a ≡ 48 + v) → (is_ascii_digit b ≡ true) × (b ≡ 48 + w) → (is_ascii_digit c ≡ true) × (c ≡ 48 + x)
    → (is_ascii_digit d ≡ true) × (d ≡ 48 + y) → (is_ascii_digit e ≡ true) × (e ≡ 48 + z)
    → number_after 0 (a ∷ b ∷ c ∷ d ∷ e ∷ []) ≡ Ok ((((v * 10 + w) * 10 + x) * 10 + y) * 10 + z)
unfolding number_after
five_digits a b c d e v w x y z av bw cx dy ez =
    let first : 0 * 10 + v ≡ v = omega arith in
    one_digit 0 a v (b ∷ c ∷ d ∷ e ∷ []) av
    ∙ ap (λ (n : ℕ). number_after n (b ∷ c ∷ d ∷ e ∷ [])) first
    ∙ one_digit v b w (c ∷ d ∷ e ∷ []) bw
    ∙ one_digit (v * 10 + w) c x (d ∷ e ∷ []) cx
    ∙ one_digit ((v * 10 + w) * 10 + x) d y (e ∷ []) dy
    ∙ one_digit (((v * 10 + w) * 10 + x) * 10 + y) e z [] ez

front_of_five : (text : List ℕ) → 5 ≤ length text → take 5 text ≡ get_or text 0 0 ∷ get_or text 1 0 ∷ get_or text 2 0 ∷ get_or text 3 0 ∷ get_or text 4 0 ∷ []
front_of_five [] le = absurd (omega arith)
front_of_five (a ∷ []) le = absurd (omega arith)
front_of_five (a ∷ b ∷ []) le = absurd (omega arith)
front_of_five (a ∷ b ∷ c ∷ []) le = absurd (omega arith)
front_of_five (a ∷ b ∷ c ∷ d ∷ []) le = absurd (omega arith)
front_of_five (a ∷ b ∷ c ∷ d ∷ e ∷ rest) le = refl

pub front_is : (text : List ℕ) (n : ℕ) → 5 ≤ length text → number_after 0 (get_or text 0 0 ∷ get_or text 1 0 ∷ get_or text 2 0 ∷ get_or text 3 0 ∷ get_or text 4 0 ∷ []) ≡ Ok n → number_after 0 (take 5 text) ≡ Ok n
front_is text n le is = ap (number_after 0) (front_of_five text le) ∙ is

pub front_number : (text : List ℕ) (n : ℕ) → 5 ≤ length text → has_number_form (get_or text 0 0 ∷ get_or text 1 0 ∷ get_or text 2 0 ∷ get_or text 3 0 ∷ get_or text 4 0 ∷ []) ≡ true
    → number_after 0 (get_or text 0 0 ∷ get_or text 1 0 ∷ get_or text 2 0 ∷ get_or text 3 0 ∷ get_or text 4 0 ∷ []) ≡ Ok n → number_in (take 5 text) ≡ Ok n
front_number text n le form is = is_number (take 5 text) n (ap has_number_form (front_of_five text le) ∙ form) (front_is text n le is)
