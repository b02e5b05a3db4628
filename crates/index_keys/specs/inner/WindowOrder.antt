-- Windows with ranks, as numbers: they compare as the windows do, and then as the ranks do.
use Rattle.std.proofs.Common.{◌≡◌, ℕ, ◌+◌, ◌*◌, ◌/◌, ◌%◌, ◌<◌, refl, sym, ap, ◌∙◌, arith, div-add-mod', mod-lt, mul-le-mul_right}
use Rattle.std.specs.declared.cmp.Ordering.{Ordering}
use Rattle.std.specs.declared.cmp.Ordering.TheVariants.{Less, Equal, Greater}
use Rattle.std.specs.Ordering.{nat_cmp, ordering_then}
use Rattle.std.specs.Cmp.{nat_cmp_is}
use Rattle.std.specs.Cmp.Lexicographic.{slice_cmp}
use Rattle.std.proofs.lemmas.Cmp.{ranked}
use Rattle.index_keys.specs.inner.Windows.{bytes_in, window_in, rank_in}

-- ---- a digit above others

below : (w a r b s : ℕ) → a < b → r < w → a * w + r < b * w + s
below w a r b s less small =
    let step : (a + 1) * w < b * w + 1 = let up = mul-le-mul_right {m = a + 1} {n = b} w (omega (arith, less)) in omega (arith, up) in
    let more : (a + 1) * w ≡ a * w + w = omega arith in
    omega (arith, step, more, small)

both : (w a r s : ℕ) → nat_cmp (a * w + r) (a * w + s) ≡ nat_cmp r s
both w a r s = by (nat_cmp r s) refl
  where
    by : (o : Ordering) → nat_cmp r s ≡ o → nat_cmp (a * w + r) (a * w + s) ≡ o
    by Less e = let less = ranked r s Less (sym e) in sym (nat_cmp_is (a * w + r) (a * w + s) Less (omega (arith, less)))
    by Equal e = let same = ranked r s Equal (sym e) in sym (nat_cmp_is (a * w + r) (a * w + s) Equal (omega (arith, same)))
    by Greater e = let less = ranked r s Greater (sym e) in sym (nat_cmp_is (a * w + r) (a * w + s) Greater (omega (arith, less)))

pub digits : (w a r b s : ℕ) → r < w → s < w → nat_cmp (a * w + r) (b * w + s) ≡ ordering_then (nat_cmp a b) (nat_cmp r s)
digits w a r b s low high = by (nat_cmp a b) refl
  where
    by : (o : Ordering) → nat_cmp a b ≡ o → nat_cmp (a * w + r) (b * w + s) ≡ ordering_then o (nat_cmp r s)
    by Less e = sym (nat_cmp_is (a * w + r) (b * w + s) Less (below w a r b s (ranked a b Less (sym e)) low))
    by Equal e = ap (λ c. nat_cmp (a * w + r) (c * w + s)) (sym (ranked a b Equal (sym e))) ∙ both w a r s
    by Greater e = sym (nat_cmp_is (a * w + r) (b * w + s) Greater (below w b s a r (ranked a b Greater (sym e)) high))

by_digits : (w m n : ℕ) → 0 < w → nat_cmp m n ≡ ordering_then (nat_cmp (m / w) (n / w)) (nat_cmp (m % w) (n % w))
by_digits w m n some =
    (λ i. nat_cmp (sym (div-add-mod' m w) i) (sym (div-add-mod' n w) i))
    ∙ digits w (m / w) (m % w) (n / w) (n % w) (mod-lt m some) (mod-lt n some)

-- ---- three digits

regroup : (a b c : Ordering) → ordering_then (ordering_then a b) c ≡ ordering_then a (ordering_then b (ordering_then c Equal))
regroup Less b c = refl
regroup Greater b c = refl
regroup Equal Less c = refl
regroup Equal Greater c = refl
regroup Equal Equal Less = refl
regroup Equal Equal Equal = refl
regroup Equal Equal Greater = refl

pub bytes_in_order : (x y : ℕ) → nat_cmp x y ≡ slice_cmp nat_cmp (bytes_in x) (bytes_in y)
bytes_in_order x y =
    by_digits 256 x y (omega arith)
    ∙ ap (λ o. ordering_then o (nat_cmp (x % 256) (y % 256))) (by_digits 256 (x / 256) (y / 256) (omega arith))
    ∙ regroup (nat_cmp (x / 256 / 256) (y / 256 / 256)) (nat_cmp (x / 256 % 256) (y / 256 % 256)) (nat_cmp (x % 256) (y % 256))

pub in_order : (m n : ℕ) → nat_cmp m n ≡ ordering_then (slice_cmp nat_cmp (window_in m) (window_in n)) (nat_cmp (rank_in m) (rank_in n))
in_order m n =
    by_digits 4294967296 m n (omega arith)
    ∙ ap (λ o. ordering_then o (nat_cmp (m % 4294967296) (n % 4294967296))) (bytes_in_order (m / 4294967296) (n / 4294967296))
