-- What a definition that is repaired keeps, byte for byte: all fields but one, and but DESC, OBSOLETE and extensions, on which nothing depends.
use Rattle.std.specs.Prelude.{◌≡◌}
use Rattle.definitions.specs.declared.element.Element.{Element}
use Rattle.definitions.specs.declared.type_definition.TypeDefinition.{TypeDefinition}
use Rattle.definitions.specs.declared.class_definition.ClassDefinition.{ClassDefinition}

-- the OID and all names
pub record HaveSameNames (a b : Element) : Type 0 where
  pub oid : a.oid ≡ b.oid
  pub names : a.names ≡ b.names

-- what two types are derived from, and how their values are ordered and searched
pub record HaveSameRules (a b : TypeDefinition) : Type 0 where
  pub superior : a.superior ≡ b.superior
  pub ordering : a.ordering ≡ b.ordering
  pub substrings : a.substrings ≡ b.substrings
  pub syntax : a.syntax ≡ b.syntax

pub record HaveSameUses (a b : TypeDefinition) : Type 0 where
  pub single : a.is_single_value ≡ b.is_single_value
  pub collective : a.is_collective ≡ b.is_collective
  pub fixed : a.is_fixed ≡ b.is_fixed
  pub usage : a.usage ≡ b.usage

-- a type has the same fields, but for its equality rule
pub record IsTypeKept (a b : TypeDefinition) : Type 0 where
  pub names : HaveSameNames a.element b.element
  pub rules : HaveSameRules a b
  pub uses : HaveSameUses a b

-- a class has the same fields, but for what it allows
pub record IsClassKept (a b : ClassDefinition) : Type 0 where
  pub names : HaveSameNames a.element b.element
  pub superiors : a.superiors ≡ b.superiors
  pub kind : a.kind ≡ b.kind
  pub must : a.must ≡ b.must
