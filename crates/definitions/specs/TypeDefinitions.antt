-- The definition of an attribute type (RFC 4512, 4.1.2), with its fields in any order, each at most once.
use Rattle.std.specs.Prelude.{ℕ, true, false, ◌||◌, is_some, if◌then◌else◌, List, Option, Some, None}
use Rattle.definitions.specs.declared.element.Element.{Element}
use Rattle.definitions.specs.declared.type_field.Reference.{Reference}
use Rattle.definitions.specs.declared.type_field.Reference.TheVariants as references
use Rattle.definitions.specs.declared.type_field.Flag.{Flag}
use Rattle.definitions.specs.declared.type_field.Flag.TheVariants as flags
use Rattle.definitions.specs.declared.type_field.TypeField.{TypeField}
use Rattle.definitions.specs.declared.type_field.TypeField.TheVariants as fields
use Rattle.definitions.specs.declared.type_definition.TypeDefinition.{TypeDefinition}
use Rattle.definitions.specs.Words.{◌>>>◌, Cut}
use Rattle.definitions.specs.Elements.{unless, with_element_field, empty_element, fields_to_end, head_at}
use Rattle.definitions.specs.TypeFields.{field_at}

unfoldable pub with_flag : TypeDefinition → Flag → Option TypeDefinition
with_flag d flags.SingleValue = unless d.is_single_value (record d { is_single_value = true })
with_flag d flags.Collective = unless d.is_collective (record d { is_collective = true })
with_flag d flags.NoUserModification = unless d.is_fixed (record d { is_fixed = true })

unfoldable pub with_reference : TypeDefinition → Reference → List ℕ → Option TypeDefinition
with_reference d references.Superior name = unless (is_some d.superior) (record d { superior = Some name })
with_reference d references.Equality name = unless (is_some d.equality) (record d { equality = Some name })
with_reference d references.Ordering name = unless (is_some d.ordering) (record d { ordering = Some name })
with_reference d references.Substrings name = unless (is_some d.substrings) (record d { substrings = Some name })
with_reference d references.Syntax name = unless (is_some d.syntax) (record d { syntax = Some name })

abbrev pub with_element : TypeDefinition → Option Element → Option TypeDefinition
with_element d None = None
with_element d (Some element) = Some (record d { element = element })

unfoldable pub with_field : TypeDefinition → TypeField → Option TypeDefinition
with_field d (fields.Element field) = with_element d (with_element_field d.element field)
with_field d (fields.Flag flag) = with_flag d flag
with_field d (fields.Reference reference name) = with_reference d reference name
with_field d (fields.Usage usage) = unless (is_some d.usage) (record d { usage = Some usage })

-- ---- the whole

abbrev pub empty_definition : List ℕ → TypeDefinition
empty_definition oid =
    record {
      element = empty_element oid;
      superior = None;
      equality = None;
      ordering = None;
      substrings = None;
      syntax = None;
      is_single_value = false;
      is_collective = false;
      is_fixed = false;
      usage = None;
    }

-- it states a syntax, or a type to take it from
abbrev pub with_syntax : TypeDefinition → Option TypeDefinition
with_syntax d = if is_some d.syntax || is_some d.superior then Some d else None

abbrev pub type_with : Cut → Option TypeDefinition
type_with head = fields_to_end field_at with_field (empty_definition head.0) head.1 head.1 >>> with_syntax

-- of what stands behind `attributetype`: `( OID`, the fields, and `)`
unfoldable pub type_definition_of : List ℕ → Option TypeDefinition
type_definition_of text = head_at text >>> type_with
