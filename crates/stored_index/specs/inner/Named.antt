-- The names by which types are printed.
use Rattle.std.specs.Prelude.{◌≡◌, ℕ, true, List, Some}
use Rattle.dn.specs.Names.{is_type}
use Rattle.values.specs.declared.types.AttributeType.{AttributeType}
use Rattle.values.specs.Types.{type_of, name_of, is_known}

-- what holds of the names of types under a configuration
pub record AreNamed (types : List AttributeType) : Type 0 where
  pub found : (t : ℕ) → is_known types t ≡ true → type_of types (name_of types t) ≡ Some t
  pub plain : (t : ℕ) → is_known types t ≡ true → is_type (name_of types t) ≡ true
