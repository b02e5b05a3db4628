-- What an attribute type of a configuration must be, by itself and beside the type above it (RFC 4512, 2.5.1 and 4.1.2).
use Rattle.std.specs.Prelude.{◌≡◌, ℕ, Bool, true, false, not, ◌&&◌, ◌||◌, nat_eq, is_some, List, [], ◌∷◌, Option, Some, None, codes}
use Rattle.std.specs.List.{list_any}
use Rattle.std.specs.Str.{str_eq_ignore_ascii_case}
use Rattle.matching.specs.declared.family.Family.TheVariants as families
use Rattle.values.specs.declared.types.TypeSyntax.{TypeSyntax}
use Rattle.values.specs.declared.types.TypeSyntax.TheVariants as type_syntaxes
use Rattle.values.specs.declared.types.EqualityRule.{EqualityRule}
use Rattle.values.specs.declared.types.EqualityRule.TheVariants as rules
use Rattle.matching.specs.declared.syntax.Syntax.TheVariants as syntaxes
use Rattle.values.specs.declared.types.AttributeType.{AttributeType}
use Rattle.values.specs.Types.{type_at, is_known, plain_family}

-- ---- rules and syntaxes told apart

abbrev pub rule_number : EqualityRule → ℕ
rule_number (rules.Plain families.Ignore) = 0
rule_number (rules.Plain families.Exact) = 1
rule_number (rules.Plain families.Numeric) = 2
rule_number (rules.Plain families.Telephone) = 3
rule_number (rules.Plain families.Integer) = 4
rule_number (rules.Plain families.Boolean) = 5
rule_number (rules.Plain families.Octet) = 6
rule_number (rules.Plain families.Oid) = 7
rule_number rules.Name = 8

abbrev pub is_equality : EqualityRule → Option EqualityRule → Bool
is_equality rule None = false
is_equality rule (Some other) = nat_eq (rule_number rule) (rule_number other)

abbrev pub syntax_number : TypeSyntax → ℕ
syntax_number (type_syntaxes.Plain syntaxes.Text) = 0
syntax_number (type_syntaxes.Plain syntaxes.Ascii) = 1
syntax_number (type_syntaxes.Plain syntaxes.Numeric) = 2
syntax_number (type_syntaxes.Plain syntaxes.Boolean) = 3
syntax_number (type_syntaxes.Plain syntaxes.Integer) = 4
syntax_number (type_syntaxes.Plain syntaxes.Oid) = 5
syntax_number (type_syntaxes.Plain syntaxes.Octet) = 6
syntax_number type_syntaxes.Name = 7

abbrev pub is_syntax : TypeSyntax → TypeSyntax → Bool
is_syntax a b = nat_eq (syntax_number a) (syntax_number b)

-- a type of DN syntax, whose values are names themselves
abbrev pub has_name_syntax : List AttributeType → ℕ → Bool
has_name_syntax types t = is_syntax type_syntaxes.Name (type_at types t).syntax

-- ---- what a type must not be

-- of another family than the type above it, where that has one, or with another syntax
abbrev pub leaves_rule : Option EqualityRule → AttributeType → Bool
leaves_rule None t = false
leaves_rule (Some rule) t = not (is_equality rule t.equality)

abbrev pub leaves_family : AttributeType → AttributeType → Bool
leaves_family t up = leaves_rule up.equality t

abbrev pub breaks_with : AttributeType → Option AttributeType → Bool
breaks_with t None = false
breaks_with t (Some up) = leaves_family t up || not (is_syntax t.syntax up.syntax)

-- numbers and names are compared as such only where they are
abbrev pub needs_another_syntax : AttributeType → Bool
needs_another_syntax t =
    (is_equality (rules.Plain families.Integer) t.equality && not (is_syntax (type_syntaxes.Plain syntaxes.Integer) t.syntax))
    || (is_equality rules.Name t.equality && not (is_syntax type_syntaxes.Name t.syntax))

-- ---- what holds of each type of a configuration

-- the type of number 0, which every configuration has (RFC 4512, 3.3)
abbrev pub object_class : AttributeType
object_class = record { oid = codes "2.5.4.0"; names = codes "objectClass" ∷ []; superior = None; syntax = type_syntaxes.Plain syntaxes.Oid; equality = Some (rules.Plain families.Oid); is_ordered = false; has_substrings = false; single_value = false; is_fixed = false; is_operational = false }

-- whether a name stands twice
abbrev pub has_twin : List (List ℕ) → Bool
has_twin [] = false
has_twin (n ∷ ns) = list_any (λ m. str_eq_ignore_ascii_case m n) ns || has_twin ns

abbrev pub up_of : List AttributeType → Option ℕ → Option AttributeType
up_of types None = None
up_of types (Some t) = Some (type_at types t)

abbrev pub IsAbove : List AttributeType → Option ℕ → Type 0
IsAbove before None = Unit {0}
IsAbove before (Some s) = is_known before s ≡ true

-- of those before it one may be above it, with the same syntax, and of its family where that has one; numbers and names are compared as such only
-- where they are; rules of order and substrings stand beside an equality rule of a family; no name stands twice
pub record FitsBehind (before : List AttributeType) (t : AttributeType) : Type 0 where
  pub superior : IsAbove before t.superior
  pub agrees : breaks_with t (up_of before t.superior) ≡ false
  pub syntax : needs_another_syntax t ≡ false
  pub ordered : t.is_ordered ≡ true → is_some (plain_family t.equality) ≡ true
  pub substrings : t.has_substrings ≡ true → is_some (plain_family t.equality) ≡ true
  pub names_apart : has_twin t.names ≡ false
