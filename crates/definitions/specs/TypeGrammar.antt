-- The definition of an attribute type (RFC 4512, 4.1.2): which texts are one, and what each of them says.
use Rattle.std.specs.Prelude.{◌≡◌, IsPermutation, ℕ, true, ◌||◌, ◌⊎◌, is_some, List, [], ◌∷◌, ◌++◌, Option, Some, None, codes}
use Rattle.base.specs.Ascii.{left_brace, right_brace}
use Rattle.definitions.specs.declared.element.Sort.TheVariants as sorts
use Rattle.definitions.specs.declared.element.ElementField.{ElementField}
use Rattle.definitions.specs.declared.type_field.Reference.{Reference}
use Rattle.definitions.specs.declared.type_field.Reference.TheVariants as references
use Rattle.definitions.specs.declared.type_field.Flag.{Flag}
use Rattle.definitions.specs.declared.type_field.Flag.TheVariants as flags
use Rattle.definitions.specs.declared.type_field.Usage.{Usage}
use Rattle.definitions.specs.declared.type_field.Usage.TheVariants as usages
use Rattle.definitions.specs.declared.type_field.TypeField.{TypeField}
use Rattle.definitions.specs.declared.type_field.TypeField.TheVariants as fields
use Rattle.definitions.specs.declared.type_definition.TypeDefinition.{TypeDefinition}
use Rattle.definitions.specs.Elements.{is_some_list}
use Rattle.definitions.specs.Tokens.{Token, Quoted, Word}
use Rattle.definitions.specs.Grammar.{is_number, IsOid, Headed, IsNothing, IsName, element_word, IsElementField, IsDefinition, AreApart, first, said, extensions_in, element_said}

-- ---- fields

abbrev pub reference_word : Reference → List ℕ
reference_word references.Superior = codes "SUP"
reference_word references.Equality = codes "EQUALITY"
reference_word references.Ordering = codes "ORDERING"
reference_word references.Substrings = codes "SUBSTR"
reference_word references.Syntax = codes "SYNTAX"

abbrev pub flag_word : Flag → List ℕ
flag_word flags.SingleValue = codes "SINGLE-VALUE"
flag_word flags.Collective = codes "COLLECTIVE"
flag_word flags.NoUserModification = codes "NO-USER-MODIFICATION"

abbrev pub usage_word : Usage → List ℕ
usage_word usages.UserApplications = codes "userApplications"
usage_word usages.DirectoryOperation = codes "directoryOperation"
usage_word usages.DistributedOperation = codes "distributedOperation"
usage_word usages.DsaOperation = codes "dSAOperation"

-- the word that begins a field
abbrev pub type_word : TypeField → List ℕ
type_word (fields.Element field) = element_word field
type_word (fields.Flag flag) = flag_word flag
type_word (fields.Reference reference name) = reference_word reference
type_word (fields.Usage usage) = codes "USAGE"

-- nothing, or `{`, a number and `}`
abbrev pub IsLength : List ℕ → Type 0
IsLength text = (text ≡ []) ⊎ ((number : List ℕ) × (is_number number ≡ true) × (text ≡ left_brace ∷ (number ++ right_brace ∷ [])))

-- a syntax is stated by its OID, and perhaps a length, which isn't kept
abbrev pub IsSyntax : List ℕ → List ℕ → Type 0
IsSyntax oid text = IsOid oid × ((length : List ℕ) × IsLength length × (text ≡ oid ++ length))

-- bare or in quotes
abbrev pub IsReferred : Reference → List ℕ → Token → Type 0
IsReferred references.Superior name token = IsName true name token
IsReferred references.Equality name token = IsName true name token
IsReferred references.Ordering name token = IsName true name token
IsReferred references.Substrings name token = IsName true name token
IsReferred references.Syntax oid token = (text : List ℕ) × IsSyntax oid text × ((token ≡ Word text) ⊎ (token ≡ Quoted text))

abbrev pub IsReference : Reference → List ℕ → List Token → Type 0
IsReference reference name tokens = (token : Token) × IsReferred reference name token × (tokens ≡ token ∷ [])

abbrev pub IsTypeField : TypeField → List Token → Type 0
IsTypeField (fields.Element field) tokens = IsElementField sorts.AttributeType field tokens
IsTypeField (fields.Flag flag) tokens = Headed (flag_word flag) IsNothing tokens
IsTypeField (fields.Reference reference name) tokens = Headed (reference_word reference) (IsReference reference name) tokens
IsTypeField (fields.Usage usage) tokens = Headed (codes "USAGE") (Headed (usage_word usage) IsNothing) tokens

-- ---- what they say

abbrev pub element_in : TypeField → Option ElementField
element_in (fields.Element field) = Some field
element_in field = None

abbrev pub superior_in : TypeField → Option (List ℕ)
superior_in (fields.Reference references.Superior name) = Some name
superior_in field = None

abbrev pub equality_in : TypeField → Option (List ℕ)
equality_in (fields.Reference references.Equality name) = Some name
equality_in field = None

abbrev pub ordering_in : TypeField → Option (List ℕ)
ordering_in (fields.Reference references.Ordering name) = Some name
ordering_in field = None

abbrev pub substrings_in : TypeField → Option (List ℕ)
substrings_in (fields.Reference references.Substrings name) = Some name
substrings_in field = None

abbrev pub syntax_in : TypeField → Option (List ℕ)
syntax_in (fields.Reference references.Syntax name) = Some name
syntax_in field = None

abbrev pub single_in : TypeField → Option Flag
single_in (fields.Flag flags.SingleValue) = Some flags.SingleValue
single_in field = None

abbrev pub collective_in : TypeField → Option Flag
collective_in (fields.Flag flags.Collective) = Some flags.Collective
collective_in field = None

abbrev pub fixed_in : TypeField → Option Flag
fixed_in (fields.Flag flags.NoUserModification) = Some flags.NoUserModification
fixed_in field = None

abbrev pub usage_in : TypeField → Option Usage
usage_in (fields.Usage usage) = Some usage
usage_in field = None

abbrev pub type_said : List ℕ → List TypeField → TypeDefinition
type_said oid fields =
    record {
      element = element_said oid (said element_in fields);
      superior = first (said superior_in fields);
      equality = first (said equality_in fields);
      ordering = first (said ordering_in fields);
      substrings = first (said substrings_in fields);
      syntax = first (said syntax_in fields);
      is_single_value = is_some_list (said single_in fields);
      is_collective = is_some_list (said collective_in fields);
      is_fixed = is_some_list (said fixed_in fields);
      usage = first (said usage_in fields);
    }

-- ---- the whole

-- `( OID`, fields in any order, each at most once, and `)`; a syntax is stated, or a type that has one
pub record SpellsType (text : List ℕ) (definition : TypeDefinition) : Type 0 where
  pub oid : List ℕ
  pub fields : List TypeField
  pub form : IsDefinition IsTypeField text oid fields
  pub apart : AreApart type_word fields
  pub definition_is : definition ≡ type_said oid fields
  pub states : (is_some definition.syntax || is_some definition.superior) ≡ true

-- the same fields in two orders; extensions stay in theirs, in which they are listed
pub record AreTypeFieldsMoved (fields others : List TypeField) : Type 0 where
  pub moved : IsPermutation fields others
  pub extensions : extensions_in (said element_in fields) ≡ extensions_in (said element_in others)
