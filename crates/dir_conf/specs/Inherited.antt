-- What an attribute type has from the types above it (RFC 4512, 2.5.1 and 4.1.2): the rules and the syntax that its definition doesn't state.
use Rattle.std.specs.Prelude.{◌≡◌, ◌↔◌, ℕ, ◌<◌, Bool, true, if◌then◌else◌, List, [], ◌∷◌, map, length, slice_index_or, Option, Some, None, codes}
use Rattle.std.specs.List.{flat_map}
use Rattle.std.specs.Option.{option_map}
use Rattle.matching.specs.declared.family.Family.{Family}
use Rattle.matching.specs.declared.family.Family.TheVariants as families
use Rattle.matching.specs.declared.syntax.Syntax.TheVariants as syntaxes
use Rattle.values.specs.declared.types.TypeSyntax.{TypeSyntax}
use Rattle.values.specs.declared.types.TypeSyntax.TheVariants as type_syntaxes
use Rattle.values.specs.declared.types.EqualityRule.{EqualityRule}
use Rattle.values.specs.declared.types.EqualityRule.TheVariants as rules
use Rattle.values.specs.declared.types.AttributeType.{AttributeType}
use Rattle.values.specs.Types.{type_at}
use Rattle.definitions.specs.declared.lines.Line.{Line}
use Rattle.definitions.specs.declared.type_definition.TypeDefinition.{TypeDefinition}
use Rattle.definitions.specs.Words.{after_word}
use Rattle.definitions.specs.TypeDefinitions.{type_definition_of}
use Rattle.dir_conf.specs.RuleNames.{syntax_of, equality_of, ordering_of, substrings_of}
use Rattle.dir_conf.specs.DerivedTypes.{stated, goes_with}
use Rattle.dir_conf.specs.Configurations.{is_built_in, is_first}

-- ---- the definitions of types

abbrev pub unless_built_in : Option TypeDefinition → List TypeDefinition
unless_built_in None = []
unless_built_in (Some d) = if is_built_in d.element.oid then [] else d ∷ []

abbrev pub defined_on : Line → List TypeDefinition
defined_on l = if is_first (codes "attributetype") l.text then unless_built_in (type_definition_of (after_word l.text)) else []

-- the definitions that stand on lines: that of the type with number 1, and so on
abbrev pub defined_on_lines : List Line → List TypeDefinition
defined_on_lines lines = flat_map defined_on lines

-- ---- what they state

-- of a type by its number, where objectClass, the type of number 0, states this
abbrev pub stated_by : {X : Type 0} → Option X → (TypeDefinition → Option X) → List TypeDefinition → ℕ → Option X
stated_by of_object_class states ds t = slice_index_or (of_object_class ∷ map states ds) t None

-- an equality rule; one that isn't known counts as not stated
abbrev pub states_equality : List TypeDefinition → ℕ → Option EqualityRule
states_equality ds t = stated_by (Some (rules.Plain families.Oid)) (λ d. stated equality_of d.equality) ds t

abbrev pub states_syntax : List TypeDefinition → ℕ → Option TypeSyntax
states_syntax ds t = stated_by (Some (type_syntaxes.Plain syntaxes.Oid)) (λ d. option_map syntax_of d.syntax) ds t

-- a rule of order or of substrings that is stated, and whether it is of the family by which the type's values are equal
abbrev pub fits_equality : List AttributeType → ℕ → Family → Bool
fits_equality types t family = goes_with (Some family) (type_at types t).equality

abbrev pub states_ordering : List AttributeType → List TypeDefinition → ℕ → Option Bool
states_ordering types ds t = option_map (fits_equality types t) (stated_by None (λ d. stated ordering_of d.ordering) ds t)

abbrev pub states_substrings : List AttributeType → List TypeDefinition → ℕ → Option Bool
states_substrings types ds t = option_map (fits_equality types t) (stated_by None (λ d. stated substrings_of d.substrings) ds t)

-- ---- what a type has

-- by this way up from a type, the first one that states something states this
abbrev pub IsFirstStated : {X : Type 0} → List AttributeType → (ℕ → Option X) → ℕ → List ℕ → X → Type 0
IsFirstStated types states t [] x = states t ≡ Some x
IsFirstStated types states t (s ∷ ss) x = (states t ≡ None) × ((type_at types t).superior ≡ Some s) × IsFirstStated types states s ss x

-- this is what the nearest type at or above it states
abbrev pub Inherits : {X : Type 0} → List AttributeType → (ℕ → Option X) → ℕ → X → Type 0
Inherits types states t x = (above : List ℕ) × IsFirstStated types states t above x

-- each type has the equality rule and the syntax of the nearest type at or above it that states one. It has a rule of order, or of
-- substrings, exactly where the nearest type that states one states it beside an equality rule of its family.
pub record AreInherited (types : List AttributeType) (ds : List TypeDefinition) : Type 0 where
  pub equality : (t : ℕ) (rule : EqualityRule) → t < length types → ((type_at types t).equality ≡ Some rule) ↔ Inherits types (states_equality ds) t rule
  pub syntax : (t : ℕ) (syntax : TypeSyntax) → t < length types → ((type_at types t).syntax ≡ syntax) ↔ Inherits types (states_syntax ds) t syntax
  pub ordering : (t : ℕ) → t < length types → ((type_at types t).is_ordered ≡ true) ↔ Inherits types (states_ordering types ds) t true
  pub substrings : (t : ℕ) → t < length types → ((type_at types t).has_substrings ≡ true) ↔ Inherits types (states_substrings types ds) t true
