-- Names of which the end is left out, since it is the suffix as it is written.
use Rattle.std.specs.Prelude.{ℕ, List, ◌∷◌, ◌++◌, reverse, Option, Some, None, Result, Ok, Err}
use Rattle.base.specs.Answers.{◌>>=◌}
use Rattle.values.specs.declared.types.AttributeType.{AttributeType}
use Rattle.schema.specs.declared.code.Code.{Code}
use Rattle.schema.specs.Names.{name_in}
use Rattle.schema.specs.Rdns.{TypedRdn, typed}
use Rattle.schema.specs.Values.{rdns_in, normal_text}

-- the RDNs from the suffix down
unfoldable pub front_located : List AttributeType → List ℕ → Result (List TypedRdn) Code
front_located types front = name_in front >>= λ n. typed types n >>= λ rs. Ok (reverse rs)

-- the normal form of RDNs, and behind it that of the suffix
abbrev pub normal_apart : List AttributeType → List TypedRdn → Result (List TypedRdn) Code → Option (List ℕ)
normal_apart types suffix (Ok rs) = Some (normal_text types rs ++ 44 ∷ normal_text types suffix)
normal_apart types suffix (Err code) = None

unfoldable pub normal_front : List AttributeType → List TypedRdn → List ℕ → Option (List ℕ)
normal_front types suffix front = normal_apart types suffix (rdns_in types front)
