-- When two definitions say the same. Nothing depends on DESC, OBSOLETE and extensions. Lists of names are sets (RFC 4512, 4.1.1 and 4.1.2), a name is
-- the same in any case (RFC 4512, 2.5), and names and the OID of one type or class stand for the same.
use Rattle.std.specs.Prelude.{ℕ, Bool, true, false, ◌&&◌, ◌||◌, nat_eq, List, Option, Some, None, unwrap_or, option_map, option_to_list, slice_get}
use Rattle.std.specs.List.{list_any, list_all, flat_map}
use Rattle.std.specs.Bool.{beq}
use Rattle.std.specs.Option.{option_eq}
use Rattle.std.specs.Str.{bytes_eq, str_eq_ignore_ascii_case}
use Rattle.base.specs.declared.class_kind.ClassKind.{ClassKind}
use Rattle.base.specs.declared.class_kind.ClassKind.TheVariants.{Abstract, Structural, Auxiliary}
use Rattle.definitions.specs.declared.element.Element.{Element}
use Rattle.definitions.specs.declared.type_field.Usage.{Usage}
use Rattle.definitions.specs.declared.type_field.Usage.TheVariants.{UserApplications, DirectoryOperation, DistributedOperation, DsaOperation}
use Rattle.definitions.specs.declared.type_definition.TypeDefinition.{TypeDefinition}
use Rattle.definitions.specs.declared.class_definition.ClassDefinition.{ClassDefinition}
use Rattle.definitions.specs.TypeDefinitions.{type_definition_of}
use Rattle.definitions.specs.ClassDefinitions.{class_definition_of}
use Rattle.values.specs.Types.{type_of}
use Rattle.schema.specs.Classes.{class_of}
use Rattle.dir_conf.specs.Configurations.{Defined}
use Rattle.server_schema.specs.declared.definition.Sort.{Sort}
use Rattle.server_schema.specs.declared.definition.Sort.TheVariants.{AttributeType, ObjectClass}
use Rattle.server_schema.specs.declared.definition.Definition.{Definition}
use Rattle.server_schema.specs.declared.alike.Meaning.{Meaning}
use Rattle.server_schema.specs.declared.alike.Meaning.TheVariants.{OfType, OfClass}

-- ---- words that name types or classes

-- the number of the type or class that a word names, of what is defined
abbrev pub number_of : Defined → Sort → List ℕ → Option ℕ
number_of defined AttributeType word = type_of defined.types word
number_of defined ObjectClass word = class_of defined.classes word

-- both are there, and they are one
abbrev pub is_one : Option ℕ → Option ℕ → Bool
is_one None n = false
is_one (Some m) None = false
is_one (Some m) (Some n) = nat_eq m n

-- two words name the same type or class: the same word in any case, or names or OIDs of one that is defined
abbrev pub is_same_word : Defined → Sort → List ℕ → List ℕ → Bool
is_same_word defined sort a b = str_eq_ignore_ascii_case a b || is_one (number_of defined sort a) (number_of defined sort b)

-- one of these words names the same
abbrev pub is_among_words : Defined → Sort → List (List ℕ) → List ℕ → Bool
is_among_words defined sort words word = list_any (λ other. is_same_word defined sort other word) words

-- two lists name the same, in any order and however often
abbrev pub are_same_words : Defined → Sort → List (List ℕ) → List (List ℕ) → Bool
are_same_words defined sort a b = list_all (is_among_words defined sort a) b && list_all (is_among_words defined sort b) a

-- ---- the OID and the names of a definition

abbrev pub has_name : List (List ℕ) → List ℕ → Bool
has_name names name = list_any (λ other. str_eq_ignore_ascii_case other name) names

-- the same names in any order and case; the first one, which dumps have, is the same byte for byte
abbrev pub have_same_names : List (List ℕ) → List (List ℕ) → Bool
have_same_names a b = option_eq bytes_eq (slice_get a 0) (slice_get b 0) && (list_all (has_name a) b && list_all (has_name b) a)

abbrev pub are_same_elements : Element → Element → Bool
are_same_elements a b = bytes_eq a.oid b.oid && have_same_names a.names b.names

-- ---- types

abbrev pub have_same_rules : TypeDefinition → TypeDefinition → Bool
have_same_rules a b =
    option_eq str_eq_ignore_ascii_case a.equality b.equality && (option_eq str_eq_ignore_ascii_case a.ordering b.ordering
    && (option_eq str_eq_ignore_ascii_case a.substrings b.substrings && option_eq bytes_eq a.syntax b.syntax))

abbrev pub is_usage : Usage → Usage → Bool
is_usage UserApplications UserApplications = true
is_usage DirectoryOperation DirectoryOperation = true
is_usage DistributedOperation DistributedOperation = true
is_usage DsaOperation DsaOperation = true
is_usage a b = false

-- a type is of userApplications where its definition doesn't say (RFC 4512, 4.1.2)
abbrev pub is_same_usage : Option Usage → Option Usage → Bool
is_same_usage a b = is_usage (unwrap_or a UserApplications) (unwrap_or b UserApplications)

abbrev pub have_same_uses : TypeDefinition → TypeDefinition → Bool
have_same_uses a b =
    beq a.is_single_value b.is_single_value && (beq a.is_collective b.is_collective
    && (beq a.is_fixed b.is_fixed && is_same_usage a.usage b.usage))

abbrev pub are_same_types : Defined → TypeDefinition → TypeDefinition → Bool
are_same_types defined a b =
    are_same_elements a.element b.element && (option_eq (is_same_word defined AttributeType) a.superior b.superior
    && (have_same_rules a b && have_same_uses a b))

-- ---- classes

abbrev pub is_kind : ClassKind → ClassKind → Bool
is_kind Abstract Abstract = true
is_kind Structural Structural = true
is_kind Auxiliary Auxiliary = true
is_kind a b = false

-- a class is structural where its definition doesn't say (RFC 4512, 4.1.1)
abbrev pub is_same_kind : Option ClassKind → Option ClassKind → Bool
is_same_kind a b = is_kind (unwrap_or a Structural) (unwrap_or b Structural)

abbrev pub are_same_classes : Defined → ClassDefinition → ClassDefinition → Bool
are_same_classes defined a b =
    are_same_elements a.element b.element && (is_same_kind a.kind b.kind && (are_same_words defined ObjectClass a.superiors b.superiors
    && (are_same_words defined AttributeType a.must b.must && are_same_words defined AttributeType a.may b.may)))

-- ---- definitions

abbrev pub type_meant : List ℕ → Option Meaning
type_meant text = option_map (λ d. OfType d) (type_definition_of text)

abbrev pub class_meant : List ℕ → Option Meaning
class_meant text = option_map (λ d. OfClass d) (class_definition_of text)

abbrev pub meaning_in : Sort → List ℕ → Option Meaning
meaning_in AttributeType text = type_meant text
meaning_in ObjectClass text = class_meant text

-- what a definition says, if it can be read
abbrev pub meaning_of : Definition → Option Meaning
meaning_of d = meaning_in d.sort d.text

abbrev pub meanings_of : List Definition → List Meaning
meanings_of ds = flat_map (λ d. option_to_list (meaning_of d)) ds

-- two types, or two classes, that say the same, by the names of what is defined
abbrev pub are_alike : Defined → Meaning → Meaning → Bool
are_alike defined (OfType a) (OfType b) = are_same_types defined a b
are_alike defined (OfClass a) (OfClass b) = are_same_classes defined a b
are_alike defined a b = false

abbrev pub is_one_alike : Defined → List Meaning → Meaning → Bool
is_one_alike defined stated meaning = list_any (λ other. are_alike defined other meaning) stated

abbrev pub is_meant : Defined → List Meaning → Option Meaning → Bool
is_meant defined stated None = false
is_meant defined stated (Some meaning) = is_one_alike defined stated meaning

-- one of these says the same as a definition, which can be read
abbrev pub is_among : Defined → List Meaning → Definition → Bool
is_among defined stated d = is_meant defined stated (meaning_of d)
