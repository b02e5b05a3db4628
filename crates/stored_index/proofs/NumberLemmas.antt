-- Numbers, digit by digit.
use Rattle.std.proofs.Common.{◌≡◌, ℕ, ◌+◌, ◌*◌, ◌-◌, ◌<◌, ◌≤◌, ◌^◌, true, false, List, length, get_or, drop, Ok, Err, refl, sym, subst, add-one, arith}
use Rattle.std.proofs.lemmas.Bool.Decides.{nat_tests}
use Rattle.std.proofs.Math.Nat.{pow-succ', pow-le-pow_right}
use Rattle.std.proofs.lemmas.List.{drop_more, drop_all}
use Rattle.std.specs.Char.{is_ascii_digit}
use Rattle.stored_index.specs.Words.{number_after}
use Rattle.stored_index.specs.declared.fault.IndexFaultKind.TheVariants.{Form}

pub goes_on : (n : ℕ) (bs : List ℕ) (i : ℕ) → i < length bs → is_ascii_digit (get_or bs i 0) ≡ true → number_after n (drop i bs) ≡ number_after (n * 10 + (get_or bs i 0 - 48)) (drop (i + 1) bs)
unfolding number_after
goes_on n bs i lt d = rw (drop_more bs i 0 lt, d) refl

pub stops : (n : ℕ) (bs : List ℕ) (i : ℕ) → i < length bs → is_ascii_digit (get_or bs i 0) ≡ false → number_after n (drop i bs) ≡ Err Form
unfolding number_after
stops n bs i lt d = rw (drop_more bs i 0 lt, d) refl

pub is_done : (n : ℕ) (bs : List ℕ) (i : ℕ) → length bs ≤ i → number_after n (drop i bs) ≡ Ok n
unfolding number_after
is_done n bs i le = rw (drop_all i bs le) refl

below_ten : (b : ℕ) → is_ascii_digit b ≡ true → b - 48 < 10
below_ten b d = grind (arith, nat_tests)

pub grows : (n : ℕ) (b : ℕ) (i : ℕ) → is_ascii_digit b ≡ true → n < 10 ^ i → n * 10 + (b - 48) < 10 ^ (i + 1)
grows n b i d h = let small = below_ten b d in let e : 10 ^ (i + 1) ≡ 10 * 10 ^ i = subst (λ (k : ℕ). 10 ^ k ≡ 10 * 10 ^ i) (sym (add-one i)) (pow-succ' 10 i) in omega (arith, e)

pub within_ten : (n : ℕ) (i : ℕ) → i ≤ 10 → n < 10 ^ i → n < 10 ^ 10
within_ten n i le h = let more : 10 ^ i ≤ 10 ^ 10 = pow-le-pow_right {n = 10} (omega arith) le in omega (arith, more)
