-- How many bits of words are set.
use Rattle.std.proofs.Common.{◌≡◌, ℕ, zero, suc, ◌+◌, ◌*◌, ◌/◌, ◌%◌, ◌^◌, ◌<◌, Bool, true, false, cond, List, [], ◌∷◌, length, get_or, refl, sym, ap, ◌∙◌, arith, nat_eq, add-zero, zero-add}
use Rattle.std.proofs.lemmas.Nat.{ones_cat}
use Rattle.std.proofs.lemmas.Nat.Bits.{bit_at-suc, bit_at_lowest}
use Rattle.std.specs.Int.{bit_at}
use Rattle.std.specs.Int.RustNames.{count_ones}
use Rattle.std.specs.List.{filter, range_with_len}
use Rattle.std.specs.FinSet as set
use Rattle.id_sets.specs.Words.{has_bit, set_of_words}
use Rattle.id_sets.proofs.Ascending.{ascending_filter, ascending_range, len_ascending}

-- how many of the numbers below n pass
pub passing : (ℕ → Bool) → ℕ → ℕ
passing p zero = 0
passing p (suc n) = cond (p 0) 1 0 + passing (λ i. p (suc i)) n

pub passing_same : (p q : ℕ → Bool) (n : ℕ) → ((i : ℕ) → i < n → p i ≡ q i) → passing p n ≡ passing q n
unfolding passing
passing_same p q zero h = refl
passing_same p q (suc n) h = rw (h 0 (omega arith), passing_same (λ i. p (suc i)) (λ i. q (suc i)) n (λ i l. h (suc i) (omega arith))) refl

pub passing_more : (p : ℕ → Bool) (m n : ℕ) → passing p (m + n) ≡ passing p m + passing (λ i. p (m + i)) n
unfolding passing
passing_more p zero n = ap (λ k. passing p k) (zero-add n) ∙ passing_same p (λ i. p (0 + i)) n (λ i l. ap p (sym (zero-add i))) ∙ sym (zero-add _)
passing_more p (suc m) n =
    let e : suc m + n ≡ suc (m + n) = omega arith in
    let rest = passing_more (λ i. p (suc i)) m n in
    let shifted = passing_same (λ i. p (suc (m + i))) (λ i. p (suc m + i)) n (λ i l. ap p (omega arith)) in
    rw e (omega (arith, rest, shifted))

length_cond : (b : Bool) (x : ℕ) (xs : List ℕ) → length (cond b (x ∷ xs) xs) ≡ cond b 1 0 + length xs
length_cond true x xs = omega arith
length_cond false x xs = omega arith

pub length_passing : (p : ℕ → Bool) (a n : ℕ) → length (filter p (range_with_len a n)) ≡ passing (λ i. p (a + i)) n
unfolding passing
length_passing p a zero = refl
length_passing p a (suc n) =
    length_cond (p a) a (filter p (range_with_len (a + 1) n))
    ∙ ap (λ k. cond (p a) 1 0 + k) (length_passing p (a + 1) n ∙ passing_same (λ i. p ((a + 1) + i)) (λ i. p (a + suc i)) n (λ i l. ap p (omega arith)))
    ∙ ap (λ k. cond (p k) 1 0 + passing (λ i. p (a + suc i)) n) (sym (add-zero a))

bit_value : (b : ℕ) → b < 2 → cond (nat_eq b 1) 1 0 ≡ b
bit_value zero h = refl
bit_value (suc zero) h = refl
bit_value (suc (suc b)) h = absurd (omega arith)

low_ones : (b : ℕ) → b < 2 → count_ones b ≡ b
unfolding count_ones
low_ones zero h = refl
low_ones (suc zero) h = refl
low_ones (suc (suc b)) h = absurd (omega arith)

halved : (w : ℕ) → count_ones w ≡ w % 2 + count_ones (w / 2)
unfolding count_ones
halved w =
    let cut = ones_cat 1 (w / 2) (w % 2) (omega arith) in
    let whole : w / 2 * 2 ^ 1 + w % 2 ≡ w = omega arith in
    let low = low_ones (w % 2) (omega arith) in
    ap count_ones (sym whole) ∙ cut ∙ omega (arith, low)

half_fits : (w k : ℕ) → w < 2 ^ suc k → w / 2 < 2 ^ k
half_fits w k h = let e : 2 ^ suc k ≡ 2 * 2 ^ k = omega arith in omega (arith, e)

-- the bits of one word
pub word_count : (k w : ℕ) → w < 2 ^ k → passing (λ i. nat_eq (bit_at w i) 1) k ≡ count_ones w
unfolding passing
word_count zero w h = let e : w ≡ 0 = omega arith in rw e (sym (low_ones 0 (omega arith)))
word_count (suc k) w h =
    rw (bit_at_lowest w, bit_value (w % 2) (omega arith))
    (ap (λ n. w % 2 + n) (passing_same (λ i. nat_eq (bit_at w (suc i)) 1) (λ i. nat_eq (bit_at (w / 2) i) 1) k (λ i l. ap (λ b. nat_eq b 1) (bit_at-suc w i)) ∙ word_count k (w / 2) (half_fits w k h))
    ∙ sym (halved w))

-- the bits of all words
abbrev pub bits_in : List ℕ → ℕ
bits_in [] = 0
bits_in (w ∷ ws) = count_ones w + bits_in ws

first_word : (w : ℕ) (ws : List ℕ) (i : ℕ) → i < 64 → has_bit (w ∷ ws) i ≡ nat_eq (bit_at w i) 1
unfolding has_bit
first_word w ws i h = let d : i / 64 ≡ 0 = omega arith in let m : i % 64 ≡ i = omega arith in rw (d, m) refl

later_word : (w : ℕ) (ws : List ℕ) (i : ℕ) → has_bit (w ∷ ws) (64 + i) ≡ has_bit ws i
unfolding has_bit
later_word w ws i = let d : (64 + i) / 64 ≡ suc (i / 64) = omega arith in let m : (64 + i) % 64 ≡ i % 64 = omega arith in rw (d, m) refl

pub words_count : (ws : List ℕ) → ((k : ℕ) → get_or ws k 0 < 2 ^ 64) → passing (has_bit ws) (64 * length ws) ≡ bits_in ws
words_count [] h = unfold passing in refl
words_count (w ∷ ws) h =
    let all : 64 * length (w ∷ ws) ≡ 64 + 64 * length ws = omega arith in
    ap (passing (has_bit (w ∷ ws))) all
    ∙ passing_more (has_bit (w ∷ ws)) 64 (64 * length ws)
    ∙ ap (λ n. n + passing (λ i. has_bit (w ∷ ws) (64 + i)) (64 * length ws)) (passing_same _ (λ i. nat_eq (bit_at w i) 1) 64 (first_word w ws) ∙ word_count 64 w (h 0))
    ∙ ap (λ n. count_ones w + n) (passing_same _ (has_bit ws) (64 * length ws) (λ i l. later_word w ws i) ∙ words_count ws (λ k. h (suc k)))

-- the number of members is that of the bits
pub len_words : (ws : List ℕ) → ((k : ℕ) → get_or ws k 0 < 2 ^ 64) → set.len (set_of_words ws) ≡ bits_in ws
unfolding set_of_words
len_words ws h =
    len_ascending (filter (has_bit ws) (range_with_len 0 (64 * length ws))) (ascending_filter (has_bit ws) _ (ascending_range 0 (64 * length ws)))
    ∙ length_passing (has_bit ws) 0 (64 * length ws)
    ∙ passing_same (λ i. has_bit ws (0 + i)) (has_bit ws) (64 * length ws) (λ i l. ap (has_bit ws) (zero-add i))
    ∙ words_count ws h
