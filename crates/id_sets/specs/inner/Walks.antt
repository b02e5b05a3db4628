-- What a walk has still to give, by the form that it goes through.
use Rattle.std.specs.Prelude.{◌≡◌, ℕ, List, [], ◌∷◌, Option, Some, None, MatchOption}
use Rattle.std.specs.Ordering.{nat_cmp}
use Rattle.std.specs.FinSet.{FinSet}
use Rattle.std.specs.Slice.Iter.{iter_rest}
use Rattle.id_sets.specs.declared.members.Left.{Left}
use Rattle.id_sets.specs.declared.members.Left.TheVariants.{List as Listed, Words}
use Rattle.id_sets.specs.Walk.{ids_from}
use Rattle.id_sets.specs.Words.{FitsIds, set_of_words}

-- the members from a number on, or none where no number is left
abbrev pub ids_left : FinSet nat_cmp → Option ℕ → List ℕ
ids_left members None = []
ids_left members (Some from) = ids_from members from

-- the rest of a list; the members of words from a number on
abbrev pub left_of : Left → List ℕ
left_of (Listed ids) = iter_rest ids
left_of (Words words from) = ids_left (set_of_words words.now) from

-- words have no bit for a number past the u32
abbrev pub FitsWalk : Left → Type 0
FitsWalk (Listed _) = Unit {0}
FitsWalk (Words words _) = FitsIds words.now

-- a step gives the first of what is left, if there is one, and leaves the rest
abbrev pub TakesNext : FinSet nat_cmp → Option ℕ → Option ℕ → Option ℕ → Type 0
TakesNext members old next new = MatchOption next ((ids_left members old ≡ []) × (ids_left members new ≡ [])) (λ id. ids_left members old ≡ id ∷ ids_left members new)
