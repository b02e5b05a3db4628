-- What a definition of an attribute type comes to, with what it takes from the type above it (RFC 4512, 2.5.1 and 4.1.2).
use Rattle.std.specs.Prelude.{ℕ, Bool, true, false, if◌then◌else◌, List, Option, Some, None}
use Rattle.matching.specs.declared.family.Family.{Family}
use Rattle.values.specs.declared.types.TypeSyntax.{TypeSyntax}
use Rattle.values.specs.declared.types.TypeSyntax.TheVariants as type_syntaxes
use Rattle.values.specs.declared.types.EqualityRule.{EqualityRule}
use Rattle.values.specs.declared.types.EqualityRule.TheVariants as rules
use Rattle.matching.specs.declared.syntax.Syntax.TheVariants as syntaxes
use Rattle.definitions.specs.declared.type_definition.TypeDefinition.{TypeDefinition}
use Rattle.definitions.specs.declared.type_field.Usage.{Usage}
use Rattle.definitions.specs.declared.type_field.Usage.TheVariants as usages
use Rattle.values.specs.declared.types.AttributeType.{AttributeType}
use Rattle.values.specs.Types.{plain_family}
use Rattle.schema.specs.TypeRules.{is_equality}
use Rattle.dir_conf.specs.RuleNames.{syntax_of, or_else, equality_of, ordering_of, substrings_of}

-- a rule that is stated and known
abbrev pub stated : {X : Type 0} → (List ℕ → Option X) → Option (List ℕ) → Option X
stated rule_of None = None
stated rule_of (Some name) = rule_of name

abbrev pub equality_above : Option AttributeType → Option EqualityRule
equality_above None = None
equality_above (Some up) = up.equality

abbrev pub ordering_above : Option AttributeType → Option Family
ordering_above None = None
ordering_above (Some up) = if up.is_ordered then plain_family up.equality else None

abbrev pub substrings_above : Option AttributeType → Option Family
substrings_above None = None
substrings_above (Some up) = if up.has_substrings then plain_family up.equality else None

abbrev pub syntax_above : Option AttributeType → TypeSyntax
syntax_above None = type_syntaxes.Plain syntaxes.Octet
syntax_above (Some up) = up.syntax

abbrev pub syntax_with : Option (List ℕ) → Option AttributeType → TypeSyntax
syntax_with None up = syntax_above up
syntax_with (Some oid) up = syntax_of oid

-- a rule counts where it is of the family by which values are equal
abbrev pub goes_with : Option Family → Option EqualityRule → Bool
goes_with None equality = false
goes_with (Some family) equality = is_equality (rules.Plain family) equality

abbrev pub equality_with : TypeDefinition → Option AttributeType → Option EqualityRule
equality_with d up = or_else (stated equality_of d.equality) (equality_above up)

-- whether a type is there for the operation of servers
abbrev pub is_operational : Option Usage → Bool
is_operational None = false
is_operational (Some usages.UserApplications) = false
is_operational (Some usages.DirectoryOperation) = true
is_operational (Some usages.DistributedOperation) = true
is_operational (Some usages.DsaOperation) = true

unfoldable pub type_with : TypeDefinition → Option ℕ → Option AttributeType → AttributeType
type_with d number up =
    record {
      oid = d.element.oid;
      names = d.element.names;
      superior = number;
      syntax = syntax_with d.syntax up;
      equality = equality_with d up;
      is_ordered = goes_with (or_else (stated ordering_of d.ordering) (ordering_above up)) (equality_with d up);
      has_substrings = goes_with (or_else (stated substrings_of d.substrings) (substrings_above up)) (equality_with d up);
      single_value = d.is_single_value;
      is_fixed = d.is_fixed;
      is_operational = is_operational d.usage;
    }
