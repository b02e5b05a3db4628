-- Attribute types (RFC 4512, 4.1.2): what names one, and what one is printed by.
use Rattle.std.specs.Prelude.{ℕ, is_some, Bool, false, List, [], ◌∷◌, length, Option, None, Some, position, nat_lt, slice_index_or}
use Rattle.std.specs.List.{list_any}
use Rattle.std.specs.Str.{str_eq_ignore_ascii_case}
use Rattle.values.specs.declared.types.AttributeType.{AttributeType}
use Rattle.values.specs.declared.types.TypeSyntax.TheVariants as type_syntaxes
use Rattle.values.specs.declared.types.EqualityRule.{EqualityRule}
use Rattle.values.specs.declared.types.EqualityRule.TheVariants as rules
use Rattle.matching.specs.declared.family.Family.{Family}
use Rattle.matching.specs.declared.syntax.Syntax.TheVariants as syntaxes

-- its names and its OID, none of which another type has; compared without ASCII case
abbrev pub names_of : AttributeType → List (List ℕ)
names_of t = t.oid ∷ t.names

abbrev pub is_named : List ℕ → AttributeType → Bool
is_named text t = list_any (λ n. str_eq_ignore_ascii_case n text) (names_of t)

-- the number of the type with this name or OID
unfoldable pub type_of : List AttributeType → List ℕ → Option ℕ
type_of types text = position (is_named text) types

abbrev pub first_or : List (List ℕ) → List ℕ → List ℕ
first_or [] other = other
first_or (x ∷ xs) other = x

-- the first name, or the OID where there is none
abbrev pub printed_name : AttributeType → List ℕ
printed_name t = first_or t.names t.oid

-- what stands for a type that isn't there
abbrev pub no_type : AttributeType
no_type =
    record {
      oid = [];
      names = [];
      superior = None;
      syntax = type_syntaxes.Plain syntaxes.Octet;
      equality = None;
      is_ordered = false;
      has_substrings = false;
      single_value = false;
      is_fixed = false;
      is_operational = false;
    }

abbrev pub type_at : List AttributeType → ℕ → AttributeType
type_at types t = slice_index_or types t no_type

-- the family of a rule that compares values without knowing types
abbrev pub plain_family : Option EqualityRule → Option Family
plain_family None = None
plain_family (Some rules.Name) = None
plain_family (Some (rules.Plain family)) = Some family

-- whether its values can be compared
abbrev pub has_equality : List AttributeType → ℕ → Bool
has_equality types t = is_some (type_at types t).equality

abbrev pub name_of : List AttributeType → ℕ → List ℕ
name_of types t = printed_name (type_at types t)

abbrev pub is_known : List AttributeType → ℕ → Bool
is_known types t = nat_lt t (length types)
