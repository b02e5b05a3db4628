-- Chunks of values that copies of an attribute share.
use Rattle.std.specs.Prelude.{List}
use Rattle.std.specs.List.{flat_map}
use Rattle.std.specs.declared.vec.Vec.{Vec}
use Rattle.std.specs.declared.rc.Rc.{Rc}
use Rattle.values.specs.Values.{Value}

-- all values of these chunks, in order
abbrev pub chunk_values : {A B : Type 0} → List (Rc (Vec Value A) B) → List Value
chunk_values chunks = flat_map (λ r. r.value.items) chunks
