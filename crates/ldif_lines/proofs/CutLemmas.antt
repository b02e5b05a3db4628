-- What holds of lines that lie one behind the other.
use Rattle.std.proofs.Common.{◌≡◌, ℕ, zero, suc, ◌+◌, ◌-◌, ◌≤◌, List, [], ◌∷◌, ◌++◌, length, take, drop, slice_set, slice_index_or, refl, sym, ap, ◌∙◌, arith}
use Rattle.std.proofs.lemmas.List.{take_all, length-take-le, length-drop, length-append, take-append-le, drop-append-le, drop_all}
use Rattle.std.specs.List.{sum_by}
use Rattle.std.proofs.lemmas.List.Sums.{sum_by-cons}
use Rattle.ldif_lines.specs.inner.Cuts.{cut_at, Closes, Fits}
use Rattle.ldif_lines.specs.inner.Drafts.{append_last}

-- ---- the places

pub fits_start : (s : ℕ) (es : List ℕ) (n : ℕ) → Fits s es n → s ≤ n
unfolding Fits
fits_start s [] n h = h
fits_start s (e ∷ es) n h = let k = fits_start e es n h.1 in omega (arith, h.0)

pub fits_first : (s e : ℕ) (es : List ℕ) (n : ℕ) → Fits s (e ∷ es) n → (s ≤ e) × (e ≤ n)
unfolding Fits
fits_first s e es n h = (h.0, fits_start e es n h.1)

pub fits_rest : (s e : ℕ) (es : List ℕ) (n : ℕ) → Fits s (e ∷ es) n → Fits e es n
unfolding Fits
fits_rest s e es n h = h.1

pub closes_fits : (s : ℕ) (es : List ℕ) (n : ℕ) → Closes s es n → Fits s es n
unfolding Fits Closes
closes_fits s [] n h = omega arith
closes_fits s (e ∷ es) n h = (h.0, closes_fits e es n h.1)

pub fits_take : (k s : ℕ) (es : List ℕ) (n : ℕ) → Fits s es n → Fits s (take k es) n
unfolding Fits
fits_take zero s es n h = fits_start s es n h
fits_take (suc k) s [] n h = h
fits_take (suc k) s (e ∷ es) n h = (h.0, fits_take k e es n h.1)

pub closes_none : Closes 0 [] 0
unfolding Closes
closes_none = refl

pub closes_push : (s : ℕ) (es : List ℕ) (n m : ℕ) → Closes s es n → n ≤ m → Closes s (es ++ m ∷ []) m
unfolding Closes
closes_push s [] n m h k = (omega arith, refl)
closes_push s (e ∷ es) n m h k = (h.0, closes_push e es n m h.1 k)

pub closes_set : (s : ℕ) (es : List ℕ) (i n m : ℕ) → Closes s es n → i + 1 ≡ length es → n ≤ m → Closes s (slice_set es i m) m
unfolding Closes
closes_set s [] i n m h e k = absurd (omega arith)
closes_set s (x ∷ []) zero n m h e k = (omega (arith, h.0, h.1), refl)
closes_set s (x ∷ []) (suc i) n m h e k = absurd (omega arith)
closes_set s (x ∷ y ∷ es) zero n m h e k = absurd (omega arith)
closes_set s (x ∷ y ∷ es) (suc i) n m h e k = (h.0, closes_set x (y ∷ es) i n m h.1 (omega arith) k)

-- ---- the lines

pub length_cut : (s : ℕ) (es bytes : List ℕ) → length (cut_at s es bytes) ≡ length es
unfolding cut_at
length_cut s [] bytes = refl
length_cut s (e ∷ es) bytes = ap suc (length_cut e es bytes)

pub cut_none : (s : ℕ) (es bytes : List ℕ) → length es ≡ 0 → cut_at s es bytes ≡ []
unfolding cut_at
cut_none s [] bytes z = refl
cut_none s (e ∷ es) bytes z = absurd (omega arith)

pub none_cut : (s : ℕ) (es bytes : List ℕ) → cut_at s es bytes ≡ [] → length es ≡ 0
none_cut s es bytes h = sym (length_cut s es bytes) ∙ ap length h

pub cut_cons : (s e : ℕ) (es bytes : List ℕ) → cut_at s (e ∷ es) bytes ≡ take (e - s) (drop s bytes) ∷ cut_at e es bytes
unfolding cut_at
cut_cons s e es bytes = refl

pub cut_take : (k s : ℕ) (es bytes : List ℕ) → cut_at s (take k es) bytes ≡ take k (cut_at s es bytes)
unfolding cut_at
cut_take zero s es bytes = refl
cut_take (suc k) s [] bytes = refl
cut_take (suc k) s (e ∷ es) bytes = ap (λ (ls : List (List ℕ)). take (e - s) (drop s bytes) ∷ ls) (cut_take k e es bytes)

part_more : (s e : ℕ) (bytes more : List ℕ) → s ≤ e → e ≤ length bytes → take (e - s) (drop s (bytes ++ more)) ≡ take (e - s) (drop s bytes)
part_more s e bytes more h k =
    ap (take (e - s)) (drop-append-le s bytes more (omega arith))
    ∙ take-append-le (e - s) (drop s bytes) more (omega (arith, length-drop s bytes))

-- bytes behind the lines change none
pub cut_more : (s : ℕ) (es bytes more : List ℕ) → Fits s es (length bytes) → cut_at s es (bytes ++ more) ≡ cut_at s es bytes
unfolding cut_at
cut_more s [] bytes more h = refl
cut_more s (e ∷ es) bytes more h =
    let f = fits_first s e es (length bytes) h in
    ap (λ (l : List ℕ). l ∷ cut_at e es (bytes ++ more)) (part_more s e bytes more f.0 f.1)
    ∙ ap (λ (ls : List (List ℕ)). take (e - s) (drop s bytes) ∷ ls) (cut_more e es bytes more (fits_rest s e es (length bytes) h))

rest_all : (s : ℕ) (bytes more : List ℕ) (n : ℕ) → s ≤ length bytes → length bytes + length more ≤ n → take (n - s) (drop s (bytes ++ more)) ≡ drop s bytes ++ more
rest_all s bytes more n h k =
    ap (take (n - s)) (drop-append-le s bytes more h)
    ∙ take_all (n - s) (drop s bytes ++ more) (omega (arith, length-append (drop s bytes) more, length-drop s bytes))

-- a line that is put at the end
pub cut_push : (s : ℕ) (es bytes line : List ℕ) (n : ℕ) → Closes s es (length bytes) → n ≡ length (bytes ++ line) → cut_at s (es ++ n ∷ []) (bytes ++ line) ≡ cut_at s es bytes ++ line ∷ []
unfolding cut_at Closes
cut_push s [] bytes line n h e =
    ap (λ (l : List ℕ). l ∷ [])
    (rest_all s bytes line n (omega arith) (omega (arith, length-append bytes line))
    ∙ ap (λ (l : List ℕ). l ++ line) (drop_all s bytes (omega arith)))
cut_push s (x ∷ es) bytes line n h e =
    let f = fits_first s x es (length bytes) (closes_fits s (x ∷ es) (length bytes) h) in
    ap (λ (l : List ℕ). l ∷ cut_at x (es ++ n ∷ []) (bytes ++ line)) (part_more s x bytes line f.0 f.1)
    ∙ ap (λ (ls : List (List ℕ)). take (x - s) (drop s bytes) ∷ ls) (cut_push x es bytes line n h.1 e)

-- the last line with more bytes at its end
pub cut_set : (s : ℕ) (es : List ℕ) (i : ℕ) (bytes more : List ℕ) (n : ℕ) → Closes s es (length bytes) → i + 1 ≡ length es → n ≡ length (bytes ++ more)
    → cut_at s (slice_set es i n) (bytes ++ more) ≡ append_last (cut_at s es bytes) more
unfolding cut_at Closes append_last
cut_set s [] i bytes more n h e k = absurd (omega arith)
cut_set s (x ∷ []) zero bytes more n h e k =
    ap (λ (l : List ℕ). l ∷ [])
    (rest_all s bytes more n (omega (arith, h.0, h.1)) (omega (arith, length-append bytes more))
    ∙ ap (λ (l : List ℕ). l ++ more) (sym (take_all (x - s) (drop s bytes) (omega (arith, h.0, h.1, length-drop s bytes)))))
cut_set s (x ∷ []) (suc i) bytes more n h e k = absurd (omega arith)
cut_set s (x ∷ y ∷ es) zero bytes more n h e k = absurd (omega arith)
cut_set s (x ∷ y ∷ es) (suc i) bytes more n h e k =
    let f = fits_first s x (y ∷ es) (length bytes) (closes_fits s (x ∷ y ∷ es) (length bytes) h) in
    ap (λ (l : List ℕ). l ∷ cut_at x (slice_set (y ∷ es) i n) (bytes ++ more)) (part_more s x bytes more f.0 f.1)
    ∙ ap (λ (ls : List (List ℕ)). take (x - s) (drop s bytes) ∷ ls) (cut_set x (y ∷ es) i bytes more n h.1 (omega arith) k)

-- all bytes are in lines
pub sum_cut : (s : ℕ) (es bytes : List ℕ) → Closes s es (length bytes) → s + sum_by length (cut_at s es bytes) ≡ length bytes
unfolding cut_at Closes
sum_cut s [] bytes h = omega arith
sum_cut s (e ∷ es) bytes h =
    let f = fits_first s e es (length bytes) (closes_fits s (e ∷ es) (length bytes) h) in
    let one : length (take (e - s) (drop s bytes)) ≡ e - s = length-take-le (e - s) (drop s bytes) (omega (arith, length-drop s bytes, f.1)) in
    let more : e + sum_by length (cut_at e es bytes) ≡ length bytes = sum_cut e es bytes h.1 in
    let all : sum_by length (take (e - s) (drop s bytes) ∷ cut_at e es bytes) ≡ length (take (e - s) (drop s bytes)) + sum_by length (cut_at e es bytes) = sum_by-cons length (take (e - s) (drop s bytes)) (cut_at e es bytes) in
    omega (arith, f.0, one, more, all)

-- ---- the same, as the code meets them

pub pushed_closes : (es new_es bytes new line : List ℕ) (n : ℕ) → Closes 0 es (length bytes) → new_es ≡ es ++ n ∷ [] → n ≡ length new → new ≡ bytes ++ line → Closes 0 new_es (length new)
pushed_closes es new_es bytes new line n h e k m = rw (e, k) (closes_push 0 es (length bytes) (length new) h (omega (arith, ap length m, length-append bytes line)))

pub pushed_cut : (es new_es bytes new line : List ℕ) (n : ℕ) → Closes 0 es (length bytes) → new_es ≡ es ++ n ∷ [] → n ≡ length new → new ≡ bytes ++ line → cut_at 0 new_es new ≡ cut_at 0 es bytes ++ line ∷ []
pushed_cut es new_es bytes new line n h e k m = rw (e, m) (cut_push 0 es bytes line n h (k ∙ ap length m))

pub extended_closes : (es : List ℕ) (i : ℕ) (bytes new more : List ℕ) (n : ℕ) → Closes 0 es (length bytes) → i + 1 ≡ length es → n ≡ length new → new ≡ bytes ++ more → Closes 0 (slice_set es i n) (length new)
extended_closes es i bytes new more n h e k m = rw k (closes_set 0 es i (length bytes) (length new) h e (omega (arith, ap length m, length-append bytes more)))

pub extended_cut : (es : List ℕ) (i : ℕ) (bytes new more : List ℕ) (n : ℕ) → Closes 0 es (length bytes) → i + 1 ≡ length es → n ≡ length new → new ≡ bytes ++ more → cut_at 0 (slice_set es i n) new ≡ append_last (cut_at 0 es bytes) more
extended_cut es i bytes new more n h e k m = rw m (cut_set 0 es i bytes more n h e (k ∙ ap length m))

pub split_fits : (s : ℕ) (es : List ℕ) (n : ℕ) → 1 ≤ length es → Fits s es n → Fits (slice_index_or es 0 0) (take (length es - 1) (drop 1 es)) n
unfolding Fits
split_fits s [] n some h = absurd (omega arith)
split_fits s (e ∷ es) n some h = rw (take_all (length (e ∷ es) - 1) es (omega arith)) h.1

pub split_cut : (s : ℕ) (es bytes : List ℕ) → 1 ≤ length es → cut_at s es bytes ≡ take (slice_index_or es 0 0 - s) (drop s bytes) ∷ cut_at (slice_index_or es 0 0) (take (length es - 1) (drop 1 es)) bytes
unfolding cut_at
split_cut s [] bytes some = absurd (omega arith)
split_cut s (e ∷ es) bytes some = ap (λ (r : List ℕ). take (e - s) (drop s bytes) ∷ cut_at e r bytes) (sym (take_all (length (e ∷ es) - 1) es (omega arith)))
