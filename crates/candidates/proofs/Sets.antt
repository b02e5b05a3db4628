-- What operations on sets say of one number.
use Rattle.std.proofs.Common.{◌≡◌, ℕ, Bool, true, false, not, ◌&&◌, ◌||◌, refl, sym, ap, ◌∙◌, Result, Ok, Err}
use Rattle.std.specs.Result.{IfOk}
use Rattle.std.specs.Ordering.{nat_cmp}
use Rattle.std.specs.Cmp.{nat_cmp_total}
use Rattle.candidates.specs.declared.numbers.Numbers.{Numbers}
use Rattle.candidates.specs.declared.numbers.Numbers.TheVariants.{Only, AllBut}
use Rattle.candidates.specs.declared.held.Held.{Held}
use Rattle.candidates.specs.Numbers.{HasExactly}
use Rattle.candidates.specs.inner.Held.{held_contains, hold, owned, HoldExactly}
use Rattle.candidates.specs.inner.Numbers.{others}
use Rattle.std.specs.FinSet.{FinSet, contains, empty, union, intersection, difference, contains-empty, contains-union, contains-intersection, contains-difference}

and_false : (a : Bool) → false ≡ (a && false)
and_false true = refl
and_false false = refl

or_false : (a : Bool) → a ≡ (a || false)
or_false true = refl
or_false false = refl

and_true : (a : Bool) → a ≡ (a && true)
and_true true = refl
and_true false = refl

module _ (n : ℕ) where
  pub in_empty : (m : FinSet nat_cmp) → m ≡ empty → contains m n ≡ false
  in_empty m e = ap (λ s. contains s n) e ∙ contains-empty nat_cmp n

  -- a set with no member, as the first or the second of two
  pub meets_first : (a b : FinSet nat_cmp) → a ≡ empty → contains {R = nat_cmp} empty n ≡ (contains a n && contains b n)
  meets_first a b e = contains-empty nat_cmp n ∙ sym (ap (λ x. x && contains b n) (in_empty a e))

  pub meets_second : (a b : FinSet nat_cmp) → b ≡ empty → contains {R = nat_cmp} empty n ≡ (contains a n && contains b n)
  meets_second a b e = contains-empty nat_cmp n ∙ and_false (contains a n) ∙ sym (ap (λ x. contains a n && x) (in_empty b e))

  pub joins_first : (a b : FinSet nat_cmp) → a ≡ empty → contains b n ≡ (contains a n || contains b n)
  joins_first a b e = sym (ap (λ x. x || contains b n) (in_empty a e))

  pub joins_second : (a b : FinSet nat_cmp) → b ≡ empty → contains a n ≡ (contains a n || contains b n)
  joins_second a b e = or_false (contains a n) ∙ sym (ap (λ x. contains a n || x) (in_empty b e))

  pub leaves_first : (a b : FinSet nat_cmp) → a ≡ empty → contains {R = nat_cmp} empty n ≡ (contains a n && not (contains b n))
  leaves_first a b e = contains-empty nat_cmp n ∙ sym (ap (λ x. x && not (contains b n)) (in_empty a e))

  pub leaves_second : (a b : FinSet nat_cmp) → b ≡ empty → contains a n ≡ (contains a n && not (contains b n))
  leaves_second a b e = and_true (contains a n) ∙ sym (ap (λ x. contains a n && not x) (in_empty b e))

  -- two sets, as two calls lend them
  module _ (m x y a b : FinSet nat_cmp) (is_a : x ≡ a) (is_b : y ≡ b) where
    pub meets : m ≡ intersection x y → contains m n ≡ (contains a n && contains b n)
    meets e = ap (λ s. contains s n) e ∙ contains-intersection nat_cmp_total x y n ∙ (λ i. contains (is_a i) n && contains (is_b i) n)

    pub joins : m ≡ union x y → contains m n ≡ (contains a n || contains b n)
    joins e = ap (λ s. contains s n) e ∙ contains-union nat_cmp_total x y n ∙ (λ i. contains (is_a i) n || contains (is_b i) n)

    pub leaves : m ≡ difference x y → contains m n ≡ (contains a n && not (contains b n))
    leaves e = ap (λ s. contains s n) e ∙ contains-difference nat_cmp_total x y n ∙ (λ i. contains (is_a i) n && not (contains (is_b i) n))

-- ---- all numbers but these

not_not : (a : Bool) → a ≡ not (not a)
not_not true = refl
not_not false = refl

neither : (a b : Bool) → not (not a && not b) ≡ (a || b)
neither true b = refl
neither false b = sym (not_not b)

module _ {S : Type 0} (members : S → FinSet nat_cmp) where
  others_hold : (numbers : Numbers (Held S)) (n : ℕ) → hold members (others numbers) n ≡ not (hold members numbers n)
  others_hold (Only s) n = refl
  others_hold (AllBut s) n = not_not (held_contains members s n)

  -- those that are among one of two are all but those that are among the others of both
  pub joined_by_others : (left right left_others right_others both : Numbers (Held S)) → left_others ≡ others left → right_others ≡ others right
      → HoldExactly members (λ n. hold members left_others n && hold members right_others n) both
      → HoldExactly members (λ n. hold members left n || hold members right n) (others both)
  joined_by_others left right left_others right_others both l r h n =
      others_hold both n ∙ ap not (h n) ∙ (λ i. not (hold members (l i) n && hold members (r i) n))
      ∙ (λ i. not (others_hold left n i && others_hold right n i)) ∙ neither (hold members left n) (hold members right n)

-- ---- sets that are made of two

module _ {S F : Type 0} (members : S → FinSet nat_cmp) (x y a b : FinSet nat_cmp) (is_a : x ≡ a) (is_b : y ≡ b) where
  pub meets_owned : (set : Result S F) (held : Result (Held S) F) → held ≡ owned set → IfOk set (λ s. members s ≡ intersection x y) → IfOk held (λ made. (n : ℕ) → held_contains members made n ≡ (contains a n && contains b n))
  meets_owned (Ok s) held e h = rw e (λ n. meets n (members s) x y a b is_a is_b h)
  meets_owned (Err f) held e h = rw e tt

  pub joins_owned : (set : Result S F) (held : Result (Held S) F) → held ≡ owned set → IfOk set (λ s. members s ≡ union x y) → IfOk held (λ made. (n : ℕ) → held_contains members made n ≡ (contains a n || contains b n))
  joins_owned (Ok s) held e h = rw e (λ n. joins n (members s) x y a b is_a is_b h)
  joins_owned (Err f) held e h = rw e tt

  pub leaves_owned : (set : Result S F) (held : Result (Held S) F) → held ≡ owned set → IfOk set (λ s. members s ≡ difference x y) → IfOk held (λ made. (n : ℕ) → held_contains members made n ≡ (contains a n && not (contains b n)))
  leaves_owned (Ok s) held e h = rw e (λ n. leaves n (members s) x y a b is_a is_b h)
  leaves_owned (Err f) held e h = rw e tt

-- numbers that pass one test pass another that says the same
pub exactly_as : {S F : Type 0} (members : S → FinSet nat_cmp) (p q : ℕ → Bool) (numbers : Result (Numbers S) F) → ((n : ℕ) → p n ≡ q n) → IfOk numbers (HasExactly members p) → IfOk numbers (HasExactly members q)
exactly_as members p q (Ok numbers) same h = λ n. h n ∙ same n
exactly_as members p q (Err f) same h = tt
