-- The test of an order tells which of two normal forms comes first.
use Rattle.std.proofs.Common.{◌≡◌, ◌↔◌, ℕ, Bool, true, false, ◌&&◌, List, refl}
use Rattle.std.specs.Prelude.{int_lt, T}
use Rattle.std.specs.Bool.{passes}
use Rattle.std.proofs.lemmas.Bool.{and_from, and_parts}
use Rattle.matching.specs.Integers.{is_integer, value}
use Rattle.matching.specs.Orders.{Before, NumberBefore}
use Rattle.matching.specs.declared.family.Family.{Family}
use Rattle.matching.specs.declared.family.Family.TheVariants as families
use Rattle.filter.specs.Orders.{comes_before}

passed : (b : Bool) → T b → b ≡ true
passed true h = refl
passed false h = absurd h

numbers : (a b : List ℕ) → (comes_before families.Integer a b ≡ true) ↔ NumberBefore a b
numbers a b = (to, from)
  where
    to : comes_before families.Integer a b ≡ true → NumberBefore a b
    to e =
        let h = and_parts (is_integer a) (is_integer b && int_lt (value a) (value b)) e in
        let k = and_parts (is_integer b) (int_lt (value a) (value b)) h.1 in
        record { a_is_integer = h.0; b_is_integer = k.0; less = record { lt = passes (int_lt (value a) (value b)) k.1 } }

    from : NumberBefore a b → comes_before families.Integer a b ≡ true
    from h = and_from _ _ h.a_is_integer (and_from _ _ h.b_is_integer (passed (int_lt (value a) (value b)) h.less.lt))

pub order_told : (family : Family) (a b : List ℕ) → (comes_before family a b ≡ true) ↔ Before family a b
unfolding Before
order_told families.Integer a b = numbers a b
order_told families.Ignore a b = (λ e. e, λ e. e)
order_told families.Exact a b = (λ e. e, λ e. e)
order_told families.Numeric a b = (λ e. e, λ e. e)
order_told families.Telephone a b = (λ e. e, λ e. e)
order_told families.Boolean a b = (λ e. e, λ e. e)
order_told families.Octet a b = (λ e. e, λ e. e)
order_told families.Oid a b = (λ e. e, λ e. e)
