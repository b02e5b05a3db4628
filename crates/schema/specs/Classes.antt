-- Object classes (RFC 4512, 4.1.1): what names one, which ones are built in, and what holds of each.
use Rattle.std.specs.Prelude.{◌≡◌, ℕ, ◌<◌, Bool, true, false, List, [], ◌∷◌, Option, position, slice_index_or, codes}
use Rattle.std.specs.List.{list_any, AllByRecursion}
use Rattle.std.specs.Str.{str_eq_ignore_ascii_case}
use Rattle.base.specs.declared.class_kind.ClassKind.TheVariants as kinds
use Rattle.values.specs.declared.types.AttributeType.{AttributeType}
use Rattle.values.specs.Types.{is_known}
use Rattle.schema.specs.declared.object_class.ObjectClass.{ObjectClass}
use Rattle.schema.specs.TypeRules.{has_twin}

-- its names and its OID, compared without ASCII case
abbrev pub class_names : ObjectClass → List (List ℕ)
class_names c = c.oid ∷ c.names

abbrev pub is_class_named : List ℕ → ObjectClass → Bool
is_class_named text c = list_any (λ n. str_eq_ignore_ascii_case n text) (class_names c)

abbrev pub is_class : List ObjectClass → List ℕ → Bool
is_class classes name = list_any (is_class_named name) classes

-- the number of the class with this name or OID
unfoldable pub class_of : List ObjectClass → List ℕ → Option ℕ
class_of classes name = position (is_class_named name) classes

-- what stands for a class that isn't there
abbrev pub no_class : ObjectClass
no_class = record { oid = []; names = []; kind = kinds.Abstract; superiors = []; must = []; may = [] }

abbrev pub class_at : List ObjectClass → ℕ → ObjectClass
class_at classes c = slice_index_or classes c no_class

-- ---- the classes that every configuration has

-- the class of number 0; each entry has the type of number 0, objectClass (RFC 4512, 2.4.1)
abbrev pub top : ObjectClass
top = record { oid = codes "2.5.6.0"; names = codes "top" ∷ []; kind = kinds.Abstract; superiors = []; must = 0 ∷ []; may = [] }

-- the class of number 1 (RFC 4512, 4.3)
abbrev pub extensible_object : ObjectClass
extensible_object = record { oid = codes "1.3.6.1.4.1.1466.101.120.111"; names = codes "extensibleObject" ∷ []; kind = kinds.Auxiliary; superiors = 0 ∷ []; must = []; may = [] }

-- ---- what holds of each class of a configuration

-- whether one has a name of the other
abbrev pub share_class_name : ObjectClass → ObjectClass → Bool
share_class_name a b = list_any (λ n. is_class_named n a) (class_names b)

-- the classes above it have lower numbers, so that none is above itself; its types are known; no name stands twice
pub record IsClass (types : List AttributeType) (number : ℕ) (c : ObjectClass) : Type 0 where
  pub superiors : AllByRecursion (λ s. s < number) c.superiors
  pub must : AllByRecursion (λ t. is_known types t ≡ true) c.must
  pub may : AllByRecursion (λ t. is_known types t ≡ true) c.may
  pub names_apart : has_twin c.names ≡ false
