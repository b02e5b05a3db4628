-- Keys of few bytes, and the order of them.
use Rattle.std.proofs.Common.{◌≡◌, ℕ, zero, suc, ◌+◌, ◌-◌, ◌*◌, ◌<◌, ◌≤◌, List, [], ◌∷◌, ◌++◌, length, take, drop, get_or, replicate, set as put, refl, sym, ap, subst, ◌∙◌, arith}
use Rattle.std.specs.Ordering.{nat_cmp}
use Rattle.std.specs.Cmp.Lexicographic.{slice_cmp}
use Rattle.std.proofs.lemmas.List.{take-append-drop}
use Rattle.index.specs.inner.ShortKeys.{IsNumberOf, pad, padded, key_in}
use Rattle.index.specs.inner.ShortKeyOrder.{itself}

-- ---- four bytes at a time

four : (a b c d : ℕ) (bytes : List ℕ) → take 4 bytes ≡ a ∷ b ∷ c ∷ d ∷ [] → bytes ≡ a ∷ b ∷ c ∷ d ∷ drop 4 bytes
four a b c d bytes is = sym (take-append-drop 4 bytes) ∙ ap (λ xs. xs ++ drop 4 bytes) is

-- where four bytes are the same on both sides, the others decide
pub next_four : (m n : ℕ) (xs ys : List ℕ) → m ≡ n → IsNumberOf m (take 4 xs) → IsNumberOf n (take 4 ys) → slice_cmp nat_cmp (drop 4 xs) (drop 4 ys) ≡ slice_cmp nat_cmp xs ys
next_four m n xs ys same p q =
    sym (
    (λ i. slice_cmp nat_cmp (four p.first p.second p.third p.fourth xs p.are i) (four q.first q.second q.third q.fourth ys q.are i))
    ∙ (λ i. slice_cmp nat_cmp (first i ∷ second i ∷ third i ∷ fourth i ∷ drop 4 xs) (q.first ∷ q.second ∷ q.third ∷ q.fourth ∷ drop 4 ys))
    ∙ itself q.first _ ∙ itself q.second _ ∙ itself q.third _ ∙ itself q.fourth _)
  where
    sums : p.first * 16777216 + p.second * 65536 + p.third * 256 + p.fourth ≡ q.first * 16777216 + q.second * 65536 + q.third * 256 + q.fourth
    sums = sym p.sum ∙ same ∙ q.sum

    first : p.first ≡ q.first
    first = let is = sums in let a = p.second_small in let b = p.third_small in let c = p.fourth_small in let d = q.second_small in let e = q.third_small in let f = q.fourth_small in omega (arith, is, a, b, c, d, e, f)

    second : p.second ≡ q.second
    second = let is = sums in let one = first in let b = p.third_small in let c = p.fourth_small in let e = q.third_small in let f = q.fourth_small in omega (arith, is, one, b, c, e, f)

    third : p.third ≡ q.third
    third = let is = sums in let one = first in let two = second in let c = p.fourth_small in let f = q.fourth_small in omega (arith, is, one, two, c, f)

    fourth : p.fourth ≡ q.fourth
    fourth = let is = sums in let one = first in let two = second in let three = third in omega (arith, is, one, two, three)

-- ---- a key that is made

pad_is : (room mark : ℕ) (key : List ℕ) → length key ≤ room → put (key ++ drop (length key) (replicate (suc room) 0)) room mark ≡ pad room mark key
pad_is zero mark [] fits = refl
pad_is zero mark (x ∷ key) fits = absurd (omega (arith, fits))
pad_is (suc room) mark [] fits = ap (λ xs. 0 ∷ xs) (pad_is room mark [] (omega arith))
pad_is (suc room) mark (x ∷ key) fits = ap (λ xs. x ∷ xs) (pad_is room mark key (omega (arith, fits)))

mark_is : (room mark : ℕ) (key : List ℕ) → length key ≤ room → get_or (pad room mark key) room 0 ≡ mark
mark_is zero mark [] fits = refl
mark_is zero mark (x ∷ key) fits = absurd (omega (arith, fits))
mark_is (suc room) mark [] fits = mark_is room mark [] (omega arith)
mark_is (suc room) mark (x ∷ key) fits = mark_is room mark key (omega (arith, fits))

front_is : (room mark : ℕ) (key : List ℕ) → length key ≤ room → take (length key) (pad room mark key) ≡ key
front_is zero mark [] fits = refl
front_is zero mark (x ∷ key) fits = absurd (omega (arith, fits))
front_is (suc room) mark [] fits = refl
front_is (suc room) mark (x ∷ key) fits = ap (λ xs. x ∷ xs) (front_is room mark key (omega (arith, fits)))

module _ (n : ℕ) (key copied : List ℕ) (same : copied ≡ key) (lt : length key < n) where
  abbrev pub made : List ℕ
  made = put (copied ++ drop (length key) (replicate n 0)) (n - 1) (length key)

  made_is : made ≡ padded (n - 1) key
  made_is = ap (λ (xs : List ℕ). put (xs ++ drop (length key) (replicate n 0)) (n - 1) (length key)) same ∙ by n lt
    where
      by : (n : ℕ) → length key < n → put (key ++ drop (length key) (replicate n 0)) (n - 1) (length key) ≡ padded (n - 1) key
      by zero lt = absurd (omega (arith, lt))
      by (suc room) lt =
          let one : suc room - 1 ≡ room = omega arith in
          ap (λ k. put (key ++ drop (length key) (replicate (suc room) 0)) k (length key)) one ∙ pad_is room (length key) key (omega (arith, lt)) ∙ ap (λ k. padded k key) (sym one)

  room : length key ≤ n - 1
  room = omega (arith, lt)

  last_is : get_or made (n - 1) 0 ≡ length key
  last_is = ap (λ xs. get_or xs (n - 1) 0) made_is ∙ mark_is (n - 1) (length key) key room

  pub key_made : key_in n made ≡ key
  key_made = (λ i. take (last_is i) (made_is i)) ∙ front_is (n - 1) (length key) key room

  pub made_few : get_or made (n - 1) 0 < n
  made_few = subst (λ k. k < n) (sym last_is) lt

  pub made_padded : made ≡ padded (n - 1) (key_in n made)
  made_padded = made_is ∙ ap (padded (n - 1)) (sym key_made)
