-- Worked examples, by computation: what filters say of `cn: Bob`, `uidNumber: 7`.
use Rattle.std.proofs.Common.{◌≡◌, ℕ, Bool, true, false, List, [], ◌∷◌, refl}
use Rattle.std.specs.Prelude.{⊤, Option, Some, None, codes}
use Rattle.std.specs.Str.{is_utf8, chars}
use lib.Utf8.{encode}
use Rattle.matching.specs.declared.family.Family.{Family}
use Rattle.matching.specs.declared.family.Family.TheVariants as families
use Rattle.matching.specs.declared.syntax.Syntax.{Syntax}
use Rattle.matching.specs.declared.syntax.Syntax.TheVariants as syntaxes
use Rattle.matching.specs.Forms.{norm}
use Rattle.matching.specs.Substrings.{piece_norm}
use Rattle.matching.specs.Syntaxes.{is_valid}
use Rattle.values.specs.declared.types.AttributeType.{AttributeType}
use Rattle.values.specs.declared.types.TypeSyntax.TheVariants as type_syntaxes
use Rattle.values.specs.declared.types.EqualityRule.TheVariants as rules
use Rattle.values.specs.Types.{type_of}
use Rattle.schema.specs.TypeRules.{object_class}
use Rattle.schema.specs.Values.{is_valid_at, norm_at}
use Rattle.entries.specs.Entries.{Attributes}
use Rattle.filter_text.specs.declared.items.Item.TheVariants.{Equality, Approx, GreaterOrEqual, LessOrEqual, Present, Substrings, Extensible}
use Rattle.filter_text.specs.Spells.{FilterContent, FilterContents, All_of, Any_of, Not_of, Leaf, No_more, And_then}
use Rattle.filter.specs.declared.truth.Truth.{Truth}
use Rattle.filter.specs.declared.truth.Truth.TheVariants.{True, Undefined, False}
use Rattle.filter.specs.Filters.{truth}

abbrev type_with : List ℕ → List ℕ → Option ℕ → Syntax → Option Family → Bool → Bool → AttributeType
type_with oid name superior syntax None is_ordered has_substrings =
    record { oid = oid; names = name ∷ []; superior = superior; syntax = type_syntaxes.Plain syntax; equality = None; is_ordered = is_ordered; has_substrings = has_substrings; single_value = false; is_fixed = false; is_operational = false }
type_with oid name superior syntax (Some family) is_ordered has_substrings =
    record { oid = oid; names = name ∷ []; superior = superior; syntax = type_syntaxes.Plain syntax; equality = Some (rules.Plain family); is_ordered = is_ordered; has_substrings = has_substrings; single_value = false; is_fixed = false; is_operational = false }

-- cn stands below name; no rule says how two notes are equal
abbrev types : List AttributeType
types =
    object_class
    ∷ type_with (codes "2.5.4.41") (codes "name") None syntaxes.Text (Some families.Ignore) false true
    ∷ type_with (codes "2.5.4.3") (codes "cn") (Some 1) syntaxes.Text (Some families.Ignore) false true
    ∷ type_with (codes "1.1") (codes "uidNumber") None syntaxes.Integer (Some families.Integer) true false
    ∷ type_with (codes "1.2") (codes "note") None syntaxes.Text None false false
    ∷ []

abbrev entry : Attributes
entry = (2, codes "Bob" ∷ []) ∷ (3, codes "7" ∷ []) ∷ []

abbrev said : FilterContent → Truth
said f = truth types entry f

abbrev both : FilterContent → FilterContent → FilterContents
both f g = And_then f (And_then g No_more)

-- what values and names are compared by
unfoldable compares : ⊤
unfolding type_of is_valid_at norm_at norm piece_norm is_valid is_utf8 chars encode
compares = tt

-- ---- items

-- a value of a subtype counts
by_a_subtype : said (Leaf (Equality (codes "name") (codes "bob"))) ≡ True
unfolding compares
by_a_subtype = refl

-- and one of a type above doesn't
not_by_a_type_above : truth types ((1, codes "Bob" ∷ []) ∷ []) (Leaf (Equality (codes "cn") (codes "bob"))) ≡ False
unfolding compares
not_by_a_type_above = refl

by_oid : said (Leaf (Approx (codes "2.5.4.3") (codes " BOB"))) ≡ True
unfolding compares
by_oid = refl

no_value : said (Leaf (Equality (codes "objectClass") (codes "top"))) ≡ False
unfolding compares
no_value = refl

no_such_type : said (Leaf (Present (codes "mail"))) ≡ Undefined
unfolding compares
no_such_type = refl

an_option : said (Leaf (Equality (codes "cn;lang-en") (codes "Bob"))) ≡ Undefined
unfolding compares
an_option = refl

-- an empty text isn't valid
not_valid : said (Leaf (Equality (codes "name") [])) ≡ Undefined
unfolding compares
not_valid = refl

no_equality_rule : said (Leaf (Equality (codes "note") (codes "a"))) ≡ Undefined
unfolding compares
no_equality_rule = refl

presence_needs_no_rule : said (Leaf (Present (codes "note"))) ≡ False
unfolding compares
presence_needs_no_rule = refl

no_ordering_rule : said (Leaf (GreaterOrEqual (codes "cn") (codes "a"))) ≡ Undefined
unfolding compares
no_ordering_rule = refl

numbers_in_order : said (Leaf (LessOrEqual (codes "uidNumber") (codes "10"))) ≡ True
unfolding compares
numbers_in_order = refl

less_or_equal : said (Leaf (LessOrEqual (codes "uidNumber") (codes "7"))) ≡ True
unfolding compares
less_or_equal = refl

greater : said (Leaf (LessOrEqual (codes "uidNumber") (codes "6"))) ≡ False
unfolding compares
greater = refl

greater_or_equal : said (Leaf (GreaterOrEqual (codes "uidNumber") (codes "7"))) ≡ True
unfolding compares
greater_or_equal = refl

pieces_stand : said (Leaf (Substrings (codes "cn") (Some (codes "b")) (codes "O" ∷ []) (Some (codes "b")))) ≡ True
unfolding compares
pieces_stand = refl

pieces_would_overlap : said (Leaf (Substrings (codes "cn") (Some (codes "bo")) [] (Some (codes "ob")))) ≡ False
unfolding compares
pieces_would_overlap = refl

no_substrings_rule : said (Leaf (Substrings (codes "uidNumber") (Some (codes "7")) [] None)) ≡ Undefined
unfolding compares
no_substrings_rule = refl

extensible : said (Leaf (Extensible (Some (codes "cn")) (codes "caseExactMatch" ∷ []) (codes "Bob"))) ≡ Undefined
unfolding compares
extensible = refl

-- ---- filters

abbrev bob : FilterContent
bob = Leaf (Equality (codes "cn") (codes "bob"))

abbrev eight : FilterContent
eight = Leaf (Equality (codes "uidNumber") (codes "8"))

abbrev no_type : FilterContent
no_type = Leaf (Present (codes "mail"))

and_of_none : said (All_of No_more) ≡ True
and_of_none = refl

or_of_none : said (Any_of No_more) ≡ False
or_of_none = refl

not_of_undefined : said (Not_of no_type) ≡ Undefined
unfolding compares
not_of_undefined = refl

not_of_false : said (Not_of eight) ≡ True
unfolding compares
not_of_false = refl

false_before_undefined : said (All_of (both no_type eight)) ≡ False
unfolding compares
false_before_undefined = refl

undefined_before_true : said (All_of (both bob no_type)) ≡ Undefined
unfolding compares
undefined_before_true = refl

true_before_undefined : said (Any_of (both no_type bob)) ≡ True
unfolding compares
true_before_undefined = refl

undefined_before_false : said (Any_of (both eight no_type)) ≡ Undefined
unfolding compares
undefined_before_false = refl
