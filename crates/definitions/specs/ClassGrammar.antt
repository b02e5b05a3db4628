-- The definition of an object class (RFC 4512, 4.1.1): which texts are one, and what each of them says.
use Rattle.std.specs.Prelude.{◌≡◌, IsPermutation, ℕ, Bool, true, false, ◌⊎◌, List, [], ◌∷◌, ◌++◌, Option, Some, None, codes}
use Rattle.definitions.specs.declared.element.Sort.TheVariants as sorts
use Rattle.definitions.specs.declared.element.ElementField.{ElementField}
use Rattle.definitions.specs.declared.class_definition.ClassList.{ClassList}
use Rattle.definitions.specs.declared.class_definition.ClassList.TheVariants as lists
use Rattle.base.specs.declared.class_kind.ClassKind.{ClassKind}
use Rattle.base.specs.declared.class_kind.ClassKind.TheVariants as kinds
use Rattle.definitions.specs.declared.class_definition.ClassField.{ClassField}
use Rattle.definitions.specs.declared.class_definition.ClassField.TheVariants as fields
use Rattle.definitions.specs.declared.class_definition.ClassDefinition.{ClassDefinition}
use Rattle.definitions.specs.Tokens.{Token, Opening, Closing, Dollar}
use Rattle.definitions.specs.Grammar.{Headed, IsNothing, IsName, element_word, IsElementField, IsDefinition, AreApart, first, first_list, said, extensions_in, element_said}

-- ---- lists of names

-- `$` and a name, perhaps often
abbrev pub AreMoreNames : Bool → List (List ℕ) → List Token → Type 0
AreMoreNames quotes [] tokens = tokens ≡ []
AreMoreNames quotes (name ∷ names) tokens = (token : Token) × (rest : List Token) × IsName quotes name token × (tokens ≡ Dollar ∷ token ∷ rest) × AreMoreNames quotes names rest

-- a name, and perhaps more with `$` between
abbrev pub AreJoined : Bool → List (List ℕ) → List Token → Type 0
AreJoined quotes [] tokens = ⊥
AreJoined quotes (name ∷ names) tokens = (token : Token) × (rest : List Token) × IsName quotes name token × (tokens ≡ token ∷ rest) × AreMoreNames quotes names rest

-- `a`, or `( a $ b )`: at least one
abbrev pub AreListed : Bool → List (List ℕ) → List Token → Type 0
AreListed quotes names tokens =
    ((name : List ℕ) × (token : Token) × (names ≡ name ∷ []) × IsName quotes name token × (tokens ≡ token ∷ []))
    ⊎ ((inside : List Token) × AreJoined quotes names inside × (tokens ≡ Opening ∷ (inside ++ Closing ∷ [])))

-- ---- fields

abbrev pub list_word : ClassList → List ℕ
list_word lists.Superiors = codes "SUP"
list_word lists.Must = codes "MUST"
list_word lists.May = codes "MAY"

-- the names of classes may stand in quotes, those of types not
abbrev pub stands_quoted : ClassList → Bool
stands_quoted lists.Superiors = true
stands_quoted lists.Must = false
stands_quoted lists.May = false

abbrev pub kind_word : ClassKind → List ℕ
kind_word kinds.Abstract = codes "ABSTRACT"
kind_word kinds.Structural = codes "STRUCTURAL"
kind_word kinds.Auxiliary = codes "AUXILIARY"

-- the word that begins a field; one stands for all three kinds, since a class has one kind at most
abbrev pub class_word : ClassField → List ℕ
class_word (fields.Element field) = element_word field
class_word (fields.List which names) = list_word which
class_word (fields.Kind kind) = codes "KIND"

abbrev pub IsClassField : ClassField → List Token → Type 0
IsClassField (fields.Element field) tokens = IsElementField sorts.ObjectClass field tokens
IsClassField (fields.List which names) tokens = Headed (list_word which) (AreListed (stands_quoted which) names) tokens
IsClassField (fields.Kind kind) tokens = Headed (kind_word kind) IsNothing tokens

-- ---- what they say

abbrev pub element_in : ClassField → Option ElementField
element_in (fields.Element field) = Some field
element_in field = None

abbrev pub superiors_in : ClassField → Option (List (List ℕ))
superiors_in (fields.List lists.Superiors names) = Some names
superiors_in field = None

abbrev pub must_in : ClassField → Option (List (List ℕ))
must_in (fields.List lists.Must names) = Some names
must_in field = None

abbrev pub may_in : ClassField → Option (List (List ℕ))
may_in (fields.List lists.May names) = Some names
may_in field = None

abbrev pub kind_in : ClassField → Option ClassKind
kind_in (fields.Kind kind) = Some kind
kind_in field = None

abbrev pub class_said : List ℕ → List ClassField → ClassDefinition
class_said oid fields =
    record {
      element = element_said oid (said element_in fields);
      superiors = first_list (said superiors_in fields);
      kind = first (said kind_in fields);
      must = first_list (said must_in fields);
      may = first_list (said may_in fields);
    }

-- ---- the whole

-- `( OID`, fields in any order, each at most once, and `)`
pub record SpellsClass (text : List ℕ) (definition : ClassDefinition) : Type 0 where
  pub oid : List ℕ
  pub fields : List ClassField
  pub form : IsDefinition IsClassField text oid fields
  pub apart : AreApart class_word fields
  pub definition_is : definition ≡ class_said oid fields

-- the same fields in two orders; extensions stay in theirs, in which they are listed
pub record AreClassFieldsMoved (fields others : List ClassField) : Type 0 where
  pub moved : IsPermutation fields others
  pub extensions : extensions_in (said element_in fields) ≡ extensions_in (said element_in others)
