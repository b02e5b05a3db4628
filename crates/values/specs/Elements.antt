-- Values that an option holds.
use Rattle.std.specs.Prelude.{List, [], Option, Some, None}

-- the elements of what is there, or none
abbrev pub elements_in : {X A : Type 0} → (X → List A) → Option X → List A
elements_in elements None = []
elements_in elements (Some x) = elements x
