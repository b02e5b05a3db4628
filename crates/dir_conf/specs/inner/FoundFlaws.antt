-- The first flaw of a definition or a line, with what it is of, as it is looked for.
use Rattle.std.specs.Prelude.{◌≡◌, ℕ, Bool, true, false, not, ◌&&◌, ◌||◌, nat_le, unwrap_or, if◌then◌else◌, List, [], ◌∷◌, length, Option, Some, None, Result, Ok, Err, codes}
use Rattle.std.specs.List.{list_any, find, slice_split}
use Rattle.std.specs.Option.{option_map}
use Rattle.std.specs.Str.{str_eq_ignore_ascii_case}
use Rattle.matching.specs.declared.family.Family.TheVariants as families
use Rattle.matching.specs.declared.syntax.Syntax.TheVariants as syntaxes
use Rattle.values.specs.declared.types.AttributeType.{AttributeType}
use Rattle.values.specs.declared.types.TypeSyntax.TheVariants as type_syntaxes
use Rattle.values.specs.declared.types.EqualityRule.TheVariants as rules
use Rattle.values.specs.Types.{type_of}
use Rattle.definitions.specs.declared.element.Element.{Element}
use Rattle.definitions.specs.declared.type_definition.TypeDefinition.{TypeDefinition}
use Rattle.definitions.specs.declared.class_definition.ClassDefinition.{ClassDefinition}
use Rattle.definitions.specs.Words.{first_word, after_word}
use Rattle.definitions.specs.Lines.{begins_blank}
use Rattle.definitions.specs.TypeDefinitions.{type_definition_of}
use Rattle.definitions.specs.ClassDefinitions.{class_definition_of}
use Rattle.schema.specs.declared.code.Code.{Code}
use Rattle.schema.specs.Rdns.{TypedRdn}
use Rattle.schema.specs.Values.{rdns_in}
use Rattle.schema.specs.TypeRules.{up_of, breaks_with, needs_another_syntax, is_equality, is_syntax}
use Rattle.schema.specs.Classes.{is_class}
use Rattle.schema.specs.declared.slots.IndexKind.{IndexKind}
use Rattle.schema.specs.declared.slots.IndexKind.TheVariants.{Equality, Presence, Substrings}
use Rattle.dir_conf.specs.declared.reason.ConfFlaw.{ConfFlaw}
use Rattle.dir_conf.specs.declared.reason.ConfFlaw.TheVariants as flaws
use Rattle.dir_conf.specs.declared.reason.UnreadPart.{UnreadPart}
use Rattle.dir_conf.specs.declared.reason.NameField.{NameField}
use Rattle.dir_conf.specs.declared.reason.NameField.TheVariants as fields
use Rattle.dir_conf.specs.declared.reason.SyntaxRule.{SyntaxRule}
use Rattle.dir_conf.specs.declared.reason.SyntaxRule.TheVariants as syntax_rules
use Rattle.dir_conf.specs.Configurations.{Defined, says_nothing, is_first, is_type, is_built_in, superior_of, suffix_text}
use Rattle.dir_conf.specs.IndexLines.{is_comma, is_empty, words}
use Rattle.dir_conf.specs.Flaws.{name_of}
use Rattle.dir_conf.specs.FaultyLines.{type_below, is_kind_word, is_some_kind, lacks}

-- the first name that stands once more behind it
abbrev pub twin : List (List ℕ) → Option (List ℕ)
twin [] = None
twin (n ∷ ns) = if list_any (λ m. str_eq_ignore_ascii_case m n) ns then Some n else twin ns

-- the first of its OID and its names that is there already, or else that stands twice
abbrev pub found_or : Option (List ℕ) → Option (List ℕ) → Option (List ℕ)
found_or None other = other
found_or (Some word) other = Some word

abbrev pub taken_word : (List ℕ → Bool) → Element → Option (List ℕ)
taken_word is_there e = found_or (find is_there (e.oid ∷ e.names)) (twin e.names)

-- this flaw, or else another one
abbrev pub flaw_or : Option ConfFlaw → Option ConfFlaw → Option ConfFlaw
flaw_or None other = other
flaw_or (Some flaw) other = Some flaw

abbrev pub twice : List ℕ → Option (List ℕ) → Option ConfFlaw
twice of word = option_map (λ w. flaws.Twice of w) word

abbrev pub unknown : List ℕ → NameField → Option (List ℕ) → Option ConfFlaw
unknown of field word = option_map (λ w. flaws.UnknownName of field w) word

-- the first that is no name of what is there
abbrev pub missing : (List ℕ → Bool) → List (List ℕ) → Option (List ℕ)
missing is_there names = find (λ n. not (is_there n)) names

-- ---- a definition of a type

-- the rule that needs another syntax, where one of them does
abbrev pub rule_at_fault : AttributeType → SyntaxRule
rule_at_fault t =
    if is_equality (rules.Plain families.Integer) t.equality && not (is_syntax (type_syntaxes.Plain syntaxes.Integer) t.syntax)
    then syntax_rules.Integer else syntax_rules.Name

abbrev pub mismatch : List AttributeType → TypeDefinition → Option ℕ → Option ConfFlaw
mismatch types d up =
    if breaks_with (type_below types d up) (up_of types up) then Some (flaws.Subtype (name_of d.element) (unwrap_or d.superior []))
    else (if needs_another_syntax (type_below types d up) then Some (flaws.RuleSyntax (name_of d.element) (rule_at_fault (type_below types d up)) d.equality d.syntax)
    else None)

abbrev pub below_flaw : List AttributeType → TypeDefinition → Option (Option ℕ) → Option ConfFlaw
below_flaw types d None = Some (flaws.UnknownName (name_of d.element) fields.Superior (unwrap_or d.superior []))
below_flaw types d (Some up) = mismatch types d up

unfoldable pub type_flaw : List AttributeType → TypeDefinition → Option ConfFlaw
type_flaw types d =
    if nat_le 65535 (length types) then Some (flaws.TooManyTypes (name_of d.element))
    else flaw_or (twice (name_of d.element) (taken_word (is_type types) d.element))
    (if d.is_collective then Some (flaws.Collective (name_of d.element)) else below_flaw types d (superior_of types d.superior))

-- what is built in is passed over
abbrev pub new_type_flaw : List AttributeType → TypeDefinition → Option ConfFlaw
new_type_flaw types d = if is_built_in d.element.oid then None else type_flaw types d

-- ---- a definition of a class

-- the types that it requires, and then those that it allows
abbrev pub types_flaw : List AttributeType → ClassDefinition → Option ConfFlaw
types_flaw types d = flaw_or (unknown (name_of d.element) fields.Must (missing (is_type types) d.must)) (unknown (name_of d.element) fields.May (missing (is_type types) d.may))

-- the classes above it come first
abbrev pub names_flaw : Defined → ClassDefinition → Option ConfFlaw
names_flaw s d = flaw_or (unknown (name_of d.element) fields.Superior (missing (is_class s.classes) d.superiors)) (types_flaw s.types d)

unfoldable pub class_flaw : Defined → ClassDefinition → Option ConfFlaw
class_flaw s d = flaw_or (twice (name_of d.element) (taken_word (is_class s.classes) d.element)) (names_flaw s d)

abbrev pub new_class_flaw : Defined → ClassDefinition → Option ConfFlaw
new_class_flaw s d = if is_built_in d.element.oid then None else class_flaw s d

-- ---- a text that may be no definition

-- what can't be read has this flaw
abbrev pub FindsUnread : Option ConfFlaw → Type 0
FindsUnread found = (of : Option (List ℕ)) × (part : UnreadPart) × (found ≡ Some (flaws.Unread of part))

abbrev pub TellsType : List AttributeType → Option TypeDefinition → Option ConfFlaw → Type 0
TellsType types None found = FindsUnread found
TellsType types (Some d) found = found ≡ new_type_flaw types d

abbrev pub TellsClass : Defined → Option ClassDefinition → Option ConfFlaw → Type 0
TellsClass s None found = FindsUnread found
TellsClass s (Some d) found = found ≡ new_class_flaw s d

-- ---- an index line

abbrev pub Lists : Type 0
Lists = List (List ℕ) × List (List ℕ)

abbrev pub unless_gap : Bool → Lists → Option Lists
unless_gap true lists = None
unless_gap false lists = Some lists

abbrev pub split : List ℕ → List (List ℕ)
split word = slice_split is_comma word

abbrev pub gap : List (List ℕ) → Bool
gap parts = list_any is_empty parts

abbrev pub both_listed : List ℕ → List ℕ → Option Lists
both_listed a b = unless_gap (gap (split a) || gap (split b)) (split a, split b)

-- names and kinds, where two words stand there and no member of their lists is empty
abbrev pub listed : List (List ℕ) → Option Lists
listed [] = None
listed (a ∷ []) = None
listed (a ∷ b ∷ []) = both_listed a b
listed (a ∷ b ∷ c ∷ others) = None

-- the first of the names whose type lacks the rule for a kind, where this is one of the kinds
abbrev pub lacking : List AttributeType → List (List ℕ) → List (List ℕ) → IndexKind → Option ConfFlaw
lacking types names kinds k =
    if list_any (is_kind_word k) kinds then option_map (λ w. flaws.NoRule w k) (find (λ name. lacks types k (type_of types name)) names) else None

abbrev pub unkept_flaw : List AttributeType → Lists → Option ConfFlaw
unkept_flaw types lists =
    flaw_or (lacking types lists.0 lists.1 Equality) (flaw_or (lacking types lists.0 lists.1 Presence) (lacking types lists.0 lists.1 Substrings))

abbrev pub listed_flaw : List AttributeType → Lists → Option ConfFlaw
listed_flaw types lists =
    flaw_or (option_map (λ w. flaws.UnknownIndexed w) (missing (is_type types) lists.0))
    (flaw_or (option_map (λ w. flaws.UnknownKind w) (missing is_some_kind lists.1)) (unkept_flaw types lists))

abbrev pub lists_flaw : List AttributeType → Option Lists → Option ConfFlaw
lists_flaw types None = Some flaws.Lists
lists_flaw types (Some lists) = listed_flaw types lists

abbrev pub index_flaw : List AttributeType → List ℕ → Option ConfFlaw
index_flaw types text = lists_flaw types (listed (words text))

-- ---- lines

abbrev pub Either : Bool → Type 0 → Type 0 → Type 0
Either true P Q = P
Either false P Q = Q

-- what a line of the first pass has, behind what is defined above it
unfoldable pub TellsDefinition : Defined → List ℕ → Option ConfFlaw → Type 0
TellsDefinition s line found =
    Either (says_nothing line) (found ≡ None)
    (Either (begins_blank line) (found ≡ Some flaws.Indented)
    (Either (is_first (codes "suffix") line || is_first (codes "index") line) (found ≡ None)
    (Either (is_first (codes "attributetype") line) (TellsType s.types (type_definition_of (after_word line)) found)
    (Either (is_first (codes "objectclass") line) (TellsClass s (class_definition_of (after_word line)) found)
    (found ≡ Some (flaws.Keyword (first_word line)))))))

-- a suffix that is no name has this flaw, whatever part of it that tells
abbrev pub IsBadSuffix : Option ConfFlaw → Type 0
IsBadSuffix found = (part : List ℕ) × (found ≡ Some (flaws.BadSuffix part))

abbrev pub TellsName : Result (List TypedRdn) Code → Option ConfFlaw → Type 0
TellsName (Ok []) found = IsBadSuffix found
TellsName (Ok (r ∷ rs)) found = found ≡ None
TellsName (Err code) found = IsBadSuffix found

abbrev pub TellsSuffix : List AttributeType → Bool → List ℕ → Option ConfFlaw → Type 0
TellsSuffix types has_suffix line found = Either has_suffix (found ≡ Some flaws.SecondSuffix) (TellsName (rdns_in types (suffix_text line)) found)

-- what a line of the second pass has, where a suffix stands above it or not
unfoldable pub TellsLater : List AttributeType → Bool → List ℕ → Option ConfFlaw → Type 0
TellsLater types has_suffix line found =
    Either (says_nothing line) (found ≡ None)
    (Either (is_first (codes "index") line) (found ≡ index_flaw types (after_word line))
    (Either (is_first (codes "suffix") line) (TellsSuffix types has_suffix line found) (found ≡ None)))
