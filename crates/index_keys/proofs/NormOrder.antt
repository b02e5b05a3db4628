-- Texts compare as their first bytes do, where these differ.
use Rattle.std.proofs.Common.{◌≡◌, ◌≢◌, ℕ, zero, suc, ◌+◌, ◌*◌, ◌<◌, ◌≤◌, List, [], ◌∷◌, length, get_or, refl, sym, ap, subst, ◌∙◌, arith}
use Rattle.std.specs.Bool.{⊤}
use Rattle.std.specs.declared.cmp.Ordering.{Ordering}
use Rattle.std.specs.declared.cmp.Ordering.TheVariants.{Less, Equal, Greater}
use Rattle.std.specs.Ordering.{nat_cmp, ordering_then}
use Rattle.std.specs.Cmp.{nat_cmp_is}
use Rattle.std.specs.Cmp.Lexicographic.{slice_cmp}
use Rattle.std.proofs.lemmas.Cmp.{ranked}
use Rattle.index_keys.specs.inner.NormFronts.{digits_from, number_at}
use Rattle.index_keys.specs.inner.WindowOrder.{digits}

-- ---- orders, one behind the other

then_equal : (o : Ordering) → ordering_then o Equal ≡ o
then_equal Less = refl
then_equal Equal = refl
then_equal Greater = refl

then_then : (a b c : Ordering) → ordering_then (ordering_then a b) c ≡ ordering_then a (ordering_then b c)
then_then Less b c = refl
then_then Equal b c = refl
then_then Greater b c = refl

-- ---- bytes from a place on, with zeros for those that are missing

abbrev padded_cmp : ℕ → ℕ → List ℕ → List ℕ → Ordering
padded_cmp zero at xs ys = Equal
padded_cmp (suc count) at xs ys = ordering_then (nat_cmp (get_or xs at 0) (get_or ys at 0)) (padded_cmp count (suc at) xs ys)

split : (few more at : ℕ) (xs ys : List ℕ) → ordering_then (padded_cmp few at xs ys) (padded_cmp more (at + few) xs ys) ≡ padded_cmp (few + more) at xs ys
split zero more at xs ys = (λ i. padded_cmp more (nothing i) xs ys) ∙ (λ i. padded_cmp (none i) at xs ys)
  where
    nothing : at + 0 ≡ at
    nothing = omega arith

    none : more ≡ 0 + more
    none = omega arith
split (suc few) more at xs ys =
    then_then (nat_cmp (get_or xs at 0) (get_or ys at 0)) (padded_cmp few (suc at) xs ys) (padded_cmp more (at + suc few) xs ys)
    ∙ ap (ordering_then (nat_cmp (get_or xs at 0) (get_or ys at 0))) ((λ i. ordering_then (padded_cmp few (suc at) xs ys) (padded_cmp more (later i) xs ys)) ∙ split few more (suc at) xs ys)
    ∙ (λ i. padded_cmp (count i) at xs ys)
  where
    later : at + suc few ≡ suc at + few
    later = omega arith

    count : suc (few + more) ≡ suc few + more
    count = omega arith

low : (count at : ℕ) (ys : List ℕ) → ordering_then (padded_cmp count at [] ys) Less ≡ Less
low zero at ys = refl
low (suc count) at ys = by (get_or ys at 0) (low count (suc at) ys)
  where
    by : (n : ℕ) → ordering_then (padded_cmp count (suc at) [] ys) Less ≡ Less → ordering_then (ordering_then (nat_cmp 0 n) (padded_cmp count (suc at) [] ys)) Less ≡ Less
    by zero rest = ap (λ o. ordering_then (ordering_then o (padded_cmp count (suc at) [] ys)) Less) (sym (nat_cmp_is 0 0 Equal refl)) ∙ rest
    by (suc n) rest = ap (λ o. ordering_then (ordering_then o (padded_cmp count (suc at) [] ys)) Less) (sym (nat_cmp_is 0 (suc n) Less (omega arith)))

high : (count at : ℕ) (xs : List ℕ) → ordering_then (padded_cmp count at xs []) Greater ≡ Greater
high zero at xs = refl
high (suc count) at xs = by (get_or xs at 0) (high count (suc at) xs)
  where
    by : (n : ℕ) → ordering_then (padded_cmp count (suc at) xs []) Greater ≡ Greater → ordering_then (ordering_then (nat_cmp n 0) (padded_cmp count (suc at) xs [])) Greater ≡ Greater
    by zero rest = ap (λ o. ordering_then (ordering_then o (padded_cmp count (suc at) xs [])) Greater) (sym (nat_cmp_is 0 0 Equal refl)) ∙ rest
    by (suc n) rest = ap (λ o. ordering_then (ordering_then o (padded_cmp count (suc at) xs [])) Greater) (sym (nat_cmp_is (suc n) 0 Greater (omega arith)))

shift : (count at x y : ℕ) (xs ys : List ℕ) → padded_cmp count (suc at) (x ∷ xs) (y ∷ ys) ≡ padded_cmp count at xs ys
shift zero at x y xs ys = refl
shift (suc count) at x y xs ys = ap (ordering_then (nat_cmp (get_or xs at 0) (get_or ys at 0))) (shift count (suc at) x y xs ys)

-- where the bytes differ, they decide
decides : (count : ℕ) (xs ys : List ℕ) → ordering_then (padded_cmp count 0 xs ys) (slice_cmp nat_cmp xs ys) ≡ slice_cmp nat_cmp xs ys
decides count [] [] = then_equal (padded_cmp count 0 [] []) ∙ none count 0
  where
    none : (count at : ℕ) → padded_cmp count at [] [] ≡ Equal
    none zero at = refl
    none (suc count) at = ap (λ o. ordering_then o (padded_cmp count (suc at) [] [])) (sym (nat_cmp_is 0 0 Equal refl)) ∙ none count (suc at)
decides count [] (y ∷ ys) = low count 0 (y ∷ ys)
decides count (x ∷ xs) [] = high count 0 (x ∷ xs)
decides zero (x ∷ xs) (y ∷ ys) = refl
decides (suc count) (x ∷ xs) (y ∷ ys) =
    ap (λ o. ordering_then (ordering_then (nat_cmp x y) o) (ordering_then (nat_cmp x y) (slice_cmp nat_cmp xs ys))) (shift count 0 x y xs ys)
    ∙ once (nat_cmp x y) (padded_cmp count 0 xs ys) (slice_cmp nat_cmp xs ys) (decides count xs ys)
  where
    once : (a b c : Ordering) → ordering_then b c ≡ c → ordering_then (ordering_then a b) (ordering_then a c) ≡ ordering_then a c
    once Less b c h = refl
    once Equal b c h = h
    once Greater b c h = refl

abbrev IsUntied : Ordering → Type 0
IsUntied Less = ⊤
IsUntied Equal = ⊥
IsUntied Greater = ⊤

-- where they don't, and there are no more, the lengths do

same_front : (count : ℕ) (xs ys : List ℕ) → padded_cmp count 0 xs ys ≡ Equal → length xs ≤ count → length ys ≤ count → nat_cmp (length xs) (length ys) ≡ slice_cmp nat_cmp xs ys
same_front count [] [] same few less = sym (nat_cmp_is 0 0 Equal refl)
same_front count [] (y ∷ ys) same few less = sym (nat_cmp_is 0 (suc (length ys)) Less (omega arith))
same_front count (x ∷ xs) [] same few less = sym (nat_cmp_is (suc (length xs)) 0 Greater (omega arith))
same_front zero (x ∷ xs) (y ∷ ys) same few less = absurd (omega (arith, few))
same_front (suc count) (x ∷ xs) (y ∷ ys) same few less =
    counts (nat_cmp (length xs) (length ys)) refl
    ∙ same_front count xs ys (parts.1) (omega (arith, few)) (omega (arith, less))
    ∙ ap (λ o. ordering_then o (slice_cmp nat_cmp xs ys)) (sym parts.0)
  where
    both : (a b : Ordering) → ordering_then a b ≡ Equal → (a ≡ Equal) × (b ≡ Equal)
    both Less b h = absurd (subst IsUntied h tt)
    both Equal b h = (refl, h)
    both Greater b h = absurd (subst IsUntied h tt)

    parts : (nat_cmp x y ≡ Equal) × (padded_cmp count 0 xs ys ≡ Equal)
    parts = both (nat_cmp x y) (padded_cmp count 0 xs ys) (ap (ordering_then (nat_cmp x y)) (sym (shift count 0 x y xs ys)) ∙ same)

    counts : (o : Ordering) → nat_cmp (length xs) (length ys) ≡ o → nat_cmp (suc (length xs)) (suc (length ys)) ≡ o
    counts Less e = let lt = ranked (length xs) (length ys) Less (sym e) in sym (nat_cmp_is (suc (length xs)) (suc (length ys)) Less (omega (arith, lt)))
    counts Equal e = let eq = ranked (length xs) (length ys) Equal (sym e) in sym (nat_cmp_is (suc (length xs)) (suc (length ys)) Equal (omega (arith, eq)))
    counts Greater e = let gt = ranked (length xs) (length ys) Greater (sym e) in sym (nat_cmp_is (suc (length xs)) (suc (length ys)) Greater (omega (arith, gt)))

-- ---- the numbers of these bytes

module _ (xs ys : List ℕ) (small : (i : ℕ) → get_or xs i 0 < 256) (little : (i : ℕ) → get_or ys i 0 < 256) where
  digits_cmp : (m n count at : ℕ) → nat_cmp (digits_from m count at xs) (digits_from n count at ys) ≡ ordering_then (nat_cmp m n) (padded_cmp count at xs ys)
  digits_cmp m n zero at = sym (then_equal (nat_cmp m n))
  digits_cmp m n (suc count) at =
      digits_cmp (m * 256 + get_or xs at 0) (n * 256 + get_or ys at 0) count (at + 1)
      ∙ (λ i. ordering_then (nat_cmp (m * 256 + get_or xs at 0) (n * 256 + get_or ys at 0)) (padded_cmp count (later i) xs ys))
      ∙ ap (λ o. ordering_then o (padded_cmp count (suc at) xs ys)) (digits 256 m (get_or xs at 0) n (get_or ys at 0) (small at) (little at))
      ∙ then_then (nat_cmp m n) (nat_cmp (get_or xs at 0) (get_or ys at 0)) (padded_cmp count (suc at) xs ys)
    where
      later : at + 1 ≡ suc at
      later = omega arith

  number_cmp : (at : ℕ) → nat_cmp (number_at at xs) (number_at at ys) ≡ padded_cmp 8 at xs ys
  number_cmp at = digits_cmp 0 0 8 at ∙ ap (λ o. ordering_then o (padded_cmp 8 at xs ys)) (sym (nat_cmp_is 0 0 Equal refl))

  numbers_cmp : ordering_then (nat_cmp (number_at 0 xs) (number_at 0 ys)) (nat_cmp (number_at 8 xs) (number_at 8 ys)) ≡ padded_cmp 16 0 xs ys
  numbers_cmp = (λ i. ordering_then (number_cmp 0 i) (number_cmp 8 i)) ∙ split 8 8 0 xs ys

  front_decides : (o : Ordering) → ordering_then (nat_cmp (number_at 0 xs) (number_at 0 ys)) (nat_cmp (number_at 8 xs) (number_at 8 ys)) ≡ o → ordering_then o (slice_cmp nat_cmp xs ys) ≡ slice_cmp nat_cmp xs ys
  front_decides o is = ap (λ p. ordering_then p (slice_cmp nat_cmp xs ys)) (sym is ∙ numbers_cmp) ∙ decides 16 xs ys

  -- the first numbers decide, where they differ
  pub by_first : (number_at 0 xs ≢ number_at 0 ys) → nat_cmp (number_at 0 xs) (number_at 0 ys) ≡ slice_cmp nat_cmp xs ys
  by_first apart = by (nat_cmp (number_at 0 xs) (number_at 0 ys)) refl
    where
      by : (o : Ordering) → nat_cmp (number_at 0 xs) (number_at 0 ys) ≡ o → o ≡ slice_cmp nat_cmp xs ys
      by Less e = front_decides Less (ap (λ p. ordering_then p (nat_cmp (number_at 8 xs) (number_at 8 ys))) e)
      by Equal e = absurd (apart (ranked (number_at 0 xs) (number_at 0 ys) Equal (sym e)))
      by Greater e = front_decides Greater (ap (λ p. ordering_then p (nat_cmp (number_at 8 xs) (number_at 8 ys))) e)

  -- and then the second ones
  pub by_second : number_at 0 xs ≡ number_at 0 ys → (number_at 8 xs ≢ number_at 8 ys) → nat_cmp (number_at 8 xs) (number_at 8 ys) ≡ slice_cmp nat_cmp xs ys
  by_second same apart = by (nat_cmp (number_at 8 xs) (number_at 8 ys)) refl
    where
      tie : nat_cmp (number_at 0 xs) (number_at 0 ys) ≡ Equal
      tie = sym (nat_cmp_is (number_at 0 xs) (number_at 0 ys) Equal same)

      by : (o : Ordering) → nat_cmp (number_at 8 xs) (number_at 8 ys) ≡ o → o ≡ slice_cmp nat_cmp xs ys
      by Less e = front_decides Less ((λ i. ordering_then (tie i) (e i)))
      by Equal e = absurd (apart (ranked (number_at 8 xs) (number_at 8 ys) Equal (sym e)))
      by Greater e = front_decides Greater ((λ i. ordering_then (tie i) (e i)))

  -- and then the lengths, where there are no more bytes
  pub by_length : number_at 0 xs ≡ number_at 0 ys → number_at 8 xs ≡ number_at 8 ys → length xs ≤ 16 → length ys ≤ 16 → nat_cmp (length xs) (length ys) ≡ slice_cmp nat_cmp xs ys
  by_length first second few less = same_front 16 xs ys (sym numbers_cmp ∙ (λ i. ordering_then (sym (nat_cmp_is (number_at 0 xs) (number_at 0 ys) Equal first) i) (sym (nat_cmp_is (number_at 8 xs) (number_at 8 ys) Equal second) i))) few less
