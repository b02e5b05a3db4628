-- What is done about a definition that dir.conf can't take: names that it can't have go, the equality rule of a type changes, and a class loses some
-- of what it allows. Nothing else changes.
use Rattle.std.specs.Prelude.{◌≡◌, ◌⊎◌, ℕ, Bool, true, false, List, ◌∷◌, ◌++◌, Some}
use Rattle.std.specs.List.{list_all, Contains}
use Rattle.base.specs.Ascii.{apostrophe}
use Rattle.base.specs.Naming.{is_name, is_type_name}
use Rattle.definitions.specs.LineGrammar.{is_in_line}
use Rattle.definitions.specs.declared.type_definition.TypeDefinition.{TypeDefinition}
use Rattle.definitions.specs.declared.class_definition.ClassDefinition.{ClassDefinition}
use Rattle.definitions.specs.TypeDefinitions.{type_definition_of}
use Rattle.definitions.specs.ClassDefinitions.{class_definition_of}
use Rattle.server_schema.specs.Kept.{IsTypeKept, IsClassKept}
use Rattle.server_schema.specs.declared.definition.Sort.{Sort}
use Rattle.server_schema.specs.declared.definition.Sort.TheVariants.{AttributeType, ObjectClass}
use Rattle.server_schema.specs.declared.definition.Definition.{Definition}

-- whether a type or a class may have a name
abbrev pub is_allowed : Sort → List ℕ → Bool
is_allowed AttributeType name = is_type_name name
is_allowed ObjectClass name = is_name name

-- no line feed stands in it
abbrev pub is_one_line : List ℕ → Bool
is_one_line text = list_all is_in_line text

-- a name in quotes that isn't allowed was cut out
pub record IsNameCut (sort : Sort) (old new : List ℕ) : Type 0 where
  pub front : List ℕ
  pub name : List ℕ
  pub behind : List ℕ
  pub unfit : is_allowed sort name ≡ false
  pub old_is : old ≡ front ++ (apostrophe ∷ (name ++ apostrophe ∷ behind))
  pub new_is : new ≡ front ++ behind

-- a type has another equality rule, and else the same fields, in one line
pub record IsRuleChanged (old new : List ℕ) : Type 0 where
  pub was : TypeDefinition
  pub is_now : TypeDefinition
  pub old_is : type_definition_of old ≡ Some was
  pub new_is : type_definition_of new ≡ Some is_now
  pub kept : IsTypeKept was is_now
  pub one_line : is_one_line new ≡ true

-- a class allows only some of what it allowed, and has else the same fields, in one line
pub record IsMayCut (old new : List ℕ) : Type 0 where
  pub was : ClassDefinition
  pub is_now : ClassDefinition
  pub old_is : class_definition_of old ≡ Some was
  pub new_is : class_definition_of new ≡ Some is_now
  pub kept : IsClassKept was is_now
  pub fewer : (name : List ℕ) → Contains is_now.may name → Contains was.may name
  pub one_line : is_one_line new ≡ true

abbrev pub IsStep : Sort → List ℕ → List ℕ → Type 0
IsStep AttributeType old new = IsNameCut AttributeType old new ⊎ IsRuleChanged old new
IsStep ObjectClass old new = IsNameCut ObjectClass old new ⊎ IsMayCut old new

-- the texts that such steps lead to
pub data IsRepaired (sort : Sort) : List ℕ → List ℕ → Type 0 where
  unchanged : (text : List ℕ) → IsRepaired sort text text
  changed : (old mid new : List ℕ) → IsRepaired sort old mid → IsStep sort mid new → IsRepaired sort old new

-- it says something else, and no more was done about it
pub record IsRepairOf (d e : Definition) : Type 0 where
  pub sort : e.sort ≡ d.sort
  pub other : d.text ≡ e.text → ⊥
  pub steps : IsRepaired d.sort d.text e.text
