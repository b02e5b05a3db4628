-- What needs no line, since it is built in or a dir.conf says it already.
use Rattle.std.specs.Prelude.{ℕ, Bool, false, if◌then◌else◌, List, [], ◌∷◌, Option, Some, None, codes}
use Rattle.std.specs.List.{flat_map}
use Rattle.definitions.specs.declared.lines.Line.{Line}
use Rattle.definitions.specs.declared.type_definition.TypeDefinition.{TypeDefinition}
use Rattle.definitions.specs.declared.class_definition.ClassDefinition.{ClassDefinition}
use Rattle.definitions.specs.Words.{after_word}
use Rattle.definitions.specs.Lines.{lines_of}
use Rattle.definitions.specs.TypeDefinitions.{type_definition_of}
use Rattle.definitions.specs.ClassDefinitions.{class_definition_of}
use Rattle.dir_conf.specs.Configurations.{is_first}
use Rattle.dir_conf.specs.Configurations as configurations
use Rattle.server_schema.specs.declared.definition.Sort.{Sort}
use Rattle.server_schema.specs.declared.definition.Sort.TheVariants.{AttributeType, ObjectClass}
use Rattle.server_schema.specs.declared.definition.Definition.{Definition}

-- ---- built in: objectClass, top and extensibleObject

abbrev pub has_type_oid : Option TypeDefinition → Bool
has_type_oid None = false
has_type_oid (Some d) = configurations.is_built_in d.element.oid

abbrev pub is_built_in_type : List ℕ → Bool
is_built_in_type text = has_type_oid (type_definition_of text)

abbrev pub has_class_oid : Option ClassDefinition → Bool
has_class_oid None = false
has_class_oid (Some d) = configurations.is_built_in d.element.oid

abbrev pub is_built_in_class : List ℕ → Bool
is_built_in_class text = has_class_oid (class_definition_of text)

abbrev pub built_in_text : Sort → List ℕ → Bool
built_in_text AttributeType text = is_built_in_type text
built_in_text ObjectClass text = is_built_in_class text

-- it has the OID of something that is built in
abbrev pub is_built_in : Definition → Bool
is_built_in d = built_in_text d.sort d.text

-- RFC 4512, 3.3
abbrev pub object_class : Definition
object_class =
    record {
      sort = AttributeType;
      text = codes "( 2.5.4.0 NAME 'objectClass' EQUALITY objectIdentifierMatch SYNTAX 1.3.6.1.4.1.1466.115.121.1.38 )";
    }

-- RFC 4512, 2.4.1
abbrev pub top : Definition
top = record { sort = ObjectClass; text = codes "( 2.5.6.0 NAME 'top' ABSTRACT MUST objectClass )" }

-- RFC 4512, 4.3
abbrev pub extensible_object : Definition
extensible_object =
    record { sort = ObjectClass; text = codes "( 1.3.6.1.4.1.1466.101.120.111 NAME 'extensibleObject' SUP top AUXILIARY )" }

-- what is built in, as definitions
abbrev pub built_in_definitions : List Definition
built_in_definitions = object_class ∷ top ∷ extensible_object ∷ []

-- ---- said by a dir.conf

abbrev pub sort_on : Line → Option Sort
sort_on l =
    if is_first (codes "attributetype") l.text then Some AttributeType
    else (if is_first (codes "objectclass") l.text then Some ObjectClass else None)

abbrev pub defined_on : List ℕ → Option Sort → List Definition
defined_on text None = []
defined_on text (Some sort) = record { sort = sort; text = after_word text } ∷ []

abbrev pub stated_on : Line → List Definition
stated_on l = defined_on l.text (sort_on l)

-- the definitions on the lines of a dir.conf
abbrev pub stated_by : List Line → List Definition
stated_by lines = flat_map stated_on lines

abbrev pub stated_in : List ℕ → List Definition
stated_in conf = stated_by (lines_of conf)
