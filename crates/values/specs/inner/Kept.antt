-- The values of an attribute in the form in which they are kept.
use Rattle.std.specs.Prelude.{List, [], ◌∷◌}
use Rattle.values.specs.Values.{Value}
use Rattle.values.specs.declared.attribute_values.Kept.{Kept}
use Rattle.values.specs.declared.attribute_values.Kept.TheVariants.{Empty, One, Many}

-- the list of them
abbrev pub values_in : Kept → List Value
values_in Empty = []
values_in (One value) = value ∷ []
values_in (Many many) = many.value
