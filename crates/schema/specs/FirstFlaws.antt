-- Which of several flaws is told.
use Rattle.std.specs.Prelude.{◌≡◌, List, ◌∷◌, ◌++◌}
use Rattle.std.specs.List.{AllByRecursion}

-- there is no such thing
abbrev pub Not : Type 0 → Type 0
Not P = P → ⊥

-- one that is there, and none that comes before it in this order
pub record IsFirstFlaw (Flaw : Type 0) (Has : Flaw → Type 0) (order : List Flaw) (flaw : Flaw) : Type 0 where
  pub before : List Flaw
  pub after : List Flaw
  pub order_is : order ≡ before ++ flaw ∷ after
  pub has : Has flaw
  pub none_before : AllByRecursion (λ f. Not (Has f)) before
