-- What holds of an RDN of a configuration.
use Rattle.std.specs.Prelude.{◌≡◌, ℕ, true, false, ◌==◌, nat_eq, List, map, length}
use Rattle.std.specs.List.{AllByRecursion, IsDistinct}
use Rattle.values.specs.declared.types.AttributeType.{AttributeType}
use Rattle.values.specs.Types.{is_known, has_equality}
use Rattle.schema.specs.TypeRules.{has_name_syntax}
use Rattle.schema.specs.Rdns.{Ava, TypedRdn}
use Rattle.schema.specs.Values.{is_valid_at}

abbrev pub type_in : Ava → ℕ
type_in p = p.0

pub record IsAva (types : List AttributeType) (p : Ava) : Type 0 where
  pub known : is_known types p.0 ≡ true
  pub no_name : has_name_syntax types p.0 ≡ false
  pub comparable : has_equality types p.0 ≡ true
  pub valid : is_valid_at types p.0 p.1 ≡ true

-- it has AVAs, each of them is good, and no two are of one type
pub record IsRdn (types : List AttributeType) (r : TypedRdn) : Type 0 where
  pub avas : AllByRecursion (IsAva types) r
  pub types_apart : IsDistinct nat_eq (map type_in r)
  pub some : (length r == 0) ≡ false
