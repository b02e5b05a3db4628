-- Sets that are lent perhaps.
use Rattle.std.specs.Prelude.{ℕ, Bool, Result, Ok, Err}
use Rattle.std.specs.Ordering.{nat_cmp}
use Rattle.std.specs.FinSet.{FinSet, empty, contains}
use Rattle.candidates.specs.declared.numbers.Numbers.{Numbers}
use Rattle.candidates.specs.declared.held.Held.{Held}
use Rattle.candidates.specs.declared.held.Held.TheVariants.{Nothing, Lent, Owned}
use Rattle.candidates.specs.Numbers.{numbers_contain, HasExactly}

abbrev pub members_of : {S : Type 0} → (S → FinSet nat_cmp) → Held S → FinSet nat_cmp
members_of members Nothing = empty
members_of members (Lent s) = members s.now
members_of members (Owned s) = members s

-- a set that was made, as one that isn't lent
abbrev pub owned : {S F : Type 0} → Result S F → Result (Held S) F
owned (Ok s) = Ok (Owned s)
owned (Err e) = Err e

-- whether a number is one of them
abbrev pub held_contains : {S : Type 0} → (S → FinSet nat_cmp) → Held S → ℕ → Bool
held_contains members held n = contains (members_of members held) n

-- whether a number is one of those of sets that are lent perhaps
abbrev pub hold : {S : Type 0} → (S → FinSet nat_cmp) → Numbers (Held S) → ℕ → Bool
hold members numbers n = numbers_contain (members_of members) numbers n

-- they are the numbers that pass a test
abbrev pub HoldExactly : {S : Type 0} → (S → FinSet nat_cmp) → (ℕ → Bool) → Numbers (Held S) → Type 0
HoldExactly members test numbers = HasExactly (members_of members) test numbers
