-- Numbers of entries: those of a set, or all others.
use Rattle.std.specs.Prelude.{◌≡◌, ℕ, Bool, not}
use Rattle.std.specs.Ordering.{nat_cmp}
use Rattle.std.specs.FinSet.{FinSet, contains}
use Rattle.candidates.specs.declared.numbers.Numbers.{Numbers}
use Rattle.candidates.specs.declared.numbers.Numbers.TheVariants.{Only, AllBut}

-- whether a number is one of them
abbrev pub numbers_contain : {S : Type 0} → (S → FinSet nat_cmp) → Numbers S → ℕ → Bool
numbers_contain members (Only s) n = contains (members s) n
numbers_contain members (AllBut s) n = not (contains (members s) n)

-- they are the numbers that pass a test
abbrev pub HasExactly : {S : Type 0} → (S → FinSet nat_cmp) → (ℕ → Bool) → Numbers S → Type 0
HasExactly members test numbers = (n : ℕ) → numbers_contain members numbers n ≡ test n
