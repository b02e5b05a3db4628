-- The order of keys of few bytes: they compare as their bytes do.
use Rattle.std.proofs.Common.{◌≡◌, ℕ, zero, suc, ◌+◌, ◌-◌, ◌<◌, ◌≤◌, List, [], ◌∷◌, length, take, refl, sym, ap, ◌∙◌, arith}
use Rattle.std.specs.Prelude.{slice_index_or}
use Rattle.std.specs.declared.cmp.Ordering.{Ordering}
use Rattle.std.specs.declared.cmp.Ordering.TheVariants.{Less, Equal}
use Rattle.std.specs.Ordering.{nat_cmp, ordering_then, ordering_reverse}
use Rattle.std.specs.Cmp.{nat_cmp_is}
use Rattle.std.specs.Cmp.Lexicographic.{slice_cmp, nat_list_cmp_total}
use Rattle.index.specs.inner.ShortKeys.{pad, padded, key_in}

pub itself : (n : ℕ) (r : Ordering) → ordering_then (nat_cmp n n) r ≡ r
itself n r = ap (λ o. ordering_then o r) (sym (nat_cmp_is n n Equal refl))

-- ---- bytes with zeros behind them, and their number at the end

abbrev shorter : (room mark other : ℕ) (ys : List ℕ) → Type 0
shorter room mark other ys = slice_cmp nat_cmp (pad room mark []) (pad room other ys) ≡ Less

none_is_less : (room mark other : ℕ) (ys : List ℕ) → mark < other → length ys ≤ room → shorter room mark other ys
none_is_less zero mark other ys less fits = ap (λ o. ordering_then o Equal) (sym (nat_cmp_is mark other Less less))
none_is_less (suc room) mark other [] less fits = none_is_less room mark other [] less (omega arith)
none_is_less (suc room) mark other (zero ∷ ys) less fits = none_is_less room mark other ys less (omega (arith, fits))
none_is_less (suc room) mark other (suc y ∷ ys) less fits = ap (λ o. ordering_then o (slice_cmp nat_cmp (pad room mark []) (pad room other ys))) (sym (nat_cmp_is 0 (suc y) Less (omega arith)))

-- they compare as the bytes do
padded_in_order : (room past : ℕ) (xs ys : List ℕ) → length xs ≤ room → length ys ≤ room → slice_cmp nat_cmp (pad room (past + length xs) xs) (pad room (past + length ys) ys) ≡ slice_cmp nat_cmp xs ys
padded_in_order zero past [] [] a b = itself (past + 0) Equal
padded_in_order zero past [] (y ∷ ys) a b = absurd (omega (arith, b))
padded_in_order zero past (x ∷ xs) ys a b = absurd (omega (arith, a))
padded_in_order (suc room) past [] [] a b = padded_in_order room past [] [] (omega arith) (omega arith)
padded_in_order (suc room) past [] (y ∷ ys) a b = none_is_less (suc room) (past + 0) (past + suc (length ys)) (y ∷ ys) (omega arith) b
padded_in_order (suc room) past (x ∷ xs) [] a b =
    nat_list_cmp_total.antisymm (pad (suc room) (past + suc (length xs)) (x ∷ xs)) (pad (suc room) (past + 0) [])
    ∙ ap ordering_reverse (none_is_less (suc room) (past + 0) (past + suc (length xs)) (x ∷ xs) (omega arith) a)
padded_in_order (suc room) past (x ∷ xs) (y ∷ ys) a b =
    ap (ordering_then (nat_cmp x y)) (
    (λ i. slice_cmp nat_cmp (pad room (more (length xs) i) xs) (pad room (more (length ys) i) ys))
    ∙ padded_in_order room (suc past) xs ys (omega (arith, a)) (omega (arith, b)))
  where
    more : (n : ℕ) → past + suc n ≡ suc past + n
    more n = omega arith

pub in_order : (room : ℕ) (xs ys : List ℕ) → length xs ≤ room → length ys ≤ room → slice_cmp nat_cmp (padded room xs) (padded room ys) ≡ slice_cmp nat_cmp xs ys
in_order room xs ys a b = (λ i. slice_cmp nat_cmp (pad room (from_zero (length xs) i) xs) (pad room (from_zero (length ys) i) ys)) ∙ padded_in_order room 0 xs ys a b
  where
    from_zero : (n : ℕ) → n ≡ 0 + n
    from_zero n = omega arith

take_short : (n : ℕ) (xs : List ℕ) → length (take n xs) ≤ n
take_short zero xs = omega arith
take_short (suc n) [] = omega arith
take_short (suc n) (x ∷ xs) = let less = take_short n xs in omega (arith, less)

pub keys_in_order : (n : ℕ) (xs ys : List ℕ) → xs ≡ padded (n - 1) (key_in n xs) → ys ≡ padded (n - 1) (key_in n ys) → slice_index_or xs (n - 1) 0 < n → slice_index_or ys (n - 1) 0 < n
    → slice_cmp nat_cmp xs ys ≡ slice_cmp nat_cmp (key_in n xs) (key_in n ys)
keys_in_order n xs ys p q a b = (λ i. slice_cmp nat_cmp (p i) (q i)) ∙ in_order (n - 1) (key_in n xs) (key_in n ys) (few xs a) (few ys b)
  where
    few : (zs : List ℕ) → slice_index_or zs (n - 1) 0 < n → length (key_in n zs) ≤ n - 1
    few zs lt = let most = take_short (slice_index_or zs (n - 1) 0) zs in omega (arith, most, lt)
