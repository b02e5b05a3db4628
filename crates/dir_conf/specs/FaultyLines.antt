-- Which fault the text of a configuration has, and at which line: what may be wrong with a line behind those before it, and what comes
-- first where more than that is wrong.
use Rattle.std.specs.Prelude.{◌≡◌, ℕ, ◌≤◌, Bool, true, false, not, ◌⊎◌, List, [], ◌∷◌, ◌++◌, length, Option, Some, None, Ok, codes}
use Rattle.std.specs.List.{list_any, list_all, slice_split}
use Rattle.std.specs.Str.{bytes_eq}
use Rattle.definitions.specs.declared.lines.Line.{Line}
use Rattle.definitions.specs.declared.type_definition.TypeDefinition.{TypeDefinition}
use Rattle.definitions.specs.declared.class_definition.ClassDefinition.{ClassDefinition}
use Rattle.definitions.specs.Words.{after_word}
use Rattle.definitions.specs.Lines.{begins_blank, lines_of}
use Rattle.definitions.specs.TypeGrammar.{SpellsType}
use Rattle.definitions.specs.ClassGrammar.{SpellsClass}
use Rattle.values.specs.declared.types.AttributeType.{AttributeType}
use Rattle.values.specs.Types.{type_of, type_at}
use Rattle.dir_conf.specs.declared.conf_fault.ConfFaultKind.{ConfFaultKind}
use Rattle.dir_conf.specs.declared.conf_fault.ConfFaultKind.TheVariants.{Keyword, Form, Twice, UnknownName, Subtype, RuleSyntax, Suffix, Index, Collective, TooManyTypes}
use Rattle.schema.specs.declared.slots.IndexKind.{IndexKind}
use Rattle.schema.specs.declared.slots.IndexKind.TheVariants.{Equality, Presence, Substrings}
use Rattle.dir_conf.specs.DerivedTypes.{type_with}
use Rattle.schema.specs.TypeRules.{has_twin, up_of, breaks_with, needs_another_syntax}
use Rattle.schema.specs.Classes.{is_class}
use Rattle.schema.specs.Rdns.{TypedRdn}
use Rattle.schema.specs.Values.{rdns_in}
use Rattle.schema.specs.Slots.{has_rule_for}
use Rattle.schema.specs.FirstFlaws.{Not, IsFirstFlaw}
use Rattle.dir_conf.specs.IndexLines.{is_comma, is_empty, words}
use Rattle.dir_conf.specs.Configurations.{says_nothing, is_first, is_built_in, is_type, names_one, superior_of, shares_class_name, Defined, built_in, defined_by, suffix_text}

-- ---- a definition of a type

-- the type that it defines below this one, or below none
abbrev pub type_below : List AttributeType → TypeDefinition → Option ℕ → AttributeType
type_below types d up = type_with d up (up_of types up)

-- what may be wrong with it beside the types that are there; the one above it is the one that it names
abbrev pub HasTypeFlaw : List AttributeType → TypeDefinition → ConfFaultKind → Type 0
HasTypeFlaw types d TooManyTypes = 65535 ≤ length types
HasTypeFlaw types d Twice = (list_any (names_one d.element) types ≡ true) ⊎ (has_twin d.element.names ≡ true)
HasTypeFlaw types d Collective = d.is_collective ≡ true
HasTypeFlaw types d UnknownName = (name : List ℕ) × (d.superior ≡ Some name) × (is_type types name ≡ false)
HasTypeFlaw types d Subtype = (up : Option ℕ) × (superior_of types d.superior ≡ Some up) × (breaks_with (type_below types d up) (up_of types up) ≡ true)
HasTypeFlaw types d RuleSyntax = (up : Option ℕ) × (superior_of types d.superior ≡ Some up) × (needs_another_syntax (type_below types d up) ≡ true)
HasTypeFlaw types d Keyword = ⊥
HasTypeFlaw types d Form = ⊥
HasTypeFlaw types d Suffix = ⊥
HasTypeFlaw types d Index = ⊥

-- which of them is told first
abbrev pub type_order : List ConfFaultKind
type_order = TooManyTypes ∷ Twice ∷ Collective ∷ UnknownName ∷ Subtype ∷ RuleSyntax ∷ []

-- behind the word `attributetype`: no definition, or one with flaws; what is built in is passed over
abbrev pub IsTypeFault : List AttributeType → List ℕ → ConfFaultKind → Type 0
IsTypeFault types text kind =
    ((kind ≡ Form) × ((d : TypeDefinition) → Not (SpellsType text d)))
    ⊎ ((d : TypeDefinition) × SpellsType text d × (is_built_in d.element.oid ≡ false) × IsFirstFlaw ConfFaultKind (HasTypeFlaw types d) type_order kind)

-- ---- a definition of a class

-- what may be wrong with it beside the types and classes that are there; it names classes above it, and types that it requires or allows
abbrev pub HasClassFlaw : Defined → ClassDefinition → ConfFaultKind → Type 0
HasClassFlaw s d Twice = (list_any (shares_class_name d.element) s.classes ≡ true) ⊎ (has_twin d.element.names ≡ true)
HasClassFlaw s d UnknownName = (list_all (is_class s.classes) d.superiors ≡ false) ⊎ ((list_all (is_type s.types) d.must ≡ false) ⊎ (list_all (is_type s.types) d.may ≡ false))
HasClassFlaw s d Keyword = ⊥
HasClassFlaw s d Form = ⊥
HasClassFlaw s d Subtype = ⊥
HasClassFlaw s d RuleSyntax = ⊥
HasClassFlaw s d Suffix = ⊥
HasClassFlaw s d Index = ⊥
HasClassFlaw s d Collective = ⊥
HasClassFlaw s d TooManyTypes = ⊥

-- which of them is told first
abbrev pub class_order : List ConfFaultKind
class_order = Twice ∷ UnknownName ∷ []

-- behind the word `objectclass`: no definition, or one with flaws; what is built in is passed over
abbrev pub IsClassFault : Defined → List ℕ → ConfFaultKind → Type 0
IsClassFault s text kind =
    ((kind ≡ Form) × ((d : ClassDefinition) → Not (SpellsClass text d)))
    ⊎ ((d : ClassDefinition) × SpellsClass text d × (is_built_in d.element.oid ≡ false) × IsFirstFlaw ConfFaultKind (HasClassFlaw s d) class_order kind)

-- ---- a line, beside what is defined above it

-- the words that a line may begin with
abbrev pub keywords : List (List ℕ)
keywords = codes "attributetype" ∷ codes "objectclass" ∷ codes "suffix" ∷ codes "index" ∷ []

-- it says something, and begins with no such word and no blank
pub record IsStray (line : List ℕ) : Type 0 where
  pub some : says_nothing line ≡ false
  pub no_blank : begins_blank line ≡ false
  pub no_keyword : list_any (λ word. is_first word line) keywords ≡ false

-- a stray line; one that begins with a blank and continues none; a definition that is at fault
abbrev pub IsDefinitionFault : Defined → List ℕ → ConfFaultKind → Type 0
IsDefinitionFault s line kind =
    ((kind ≡ Keyword) × IsStray line)
    ⊎ (((kind ≡ Form) × (begins_blank line ≡ true))
    ⊎ (((is_first (codes "attributetype") line ≡ true) × IsTypeFault s.types (after_word line) kind)
    ⊎ ((is_first (codes "objectclass") line ≡ true) × IsClassFault s (after_word line) kind)))

-- ---- an index line

-- the word that stands for a kind
abbrev pub kind_word : IndexKind → List ℕ
kind_word Equality = codes "eq"
kind_word Presence = codes "pres"
kind_word Substrings = codes "sub"

-- whether this is it
abbrev pub is_kind_word : IndexKind → List ℕ → Bool
is_kind_word k word = bytes_eq word (kind_word k)

-- whether this is the word for one of them
abbrev pub is_some_kind : List ℕ → Bool
is_some_kind word = list_any (λ k. is_kind_word k word) (Equality ∷ Presence ∷ Substrings ∷ [])

-- whether the type of this name lacks the rule that a kind goes by
abbrev pub lacks : List AttributeType → IndexKind → Option ℕ → Bool
lacks types k None = false
lacks types k (Some t) = not (has_rule_for (type_at types t) k)

-- two words: names and kinds, with commas between them, and none empty
pub record AreListed (text : List ℕ) (names kinds : List (List ℕ)) : Type 0 where
  pub first : List ℕ
  pub second : List ℕ
  pub words_are : words text ≡ first ∷ second ∷ []
  pub names_are : slice_split is_comma first ≡ names
  pub kinds_are : slice_split is_comma second ≡ kinds
  pub names_some : list_any is_empty names ≡ false
  pub kinds_some : list_any is_empty kinds ≡ false

-- the type of one of the names lacks the rule for one of the kinds
abbrev pub IsUnkept : List AttributeType → List (List ℕ) → List (List ℕ) → Type 0
IsUnkept types names kinds = (k : IndexKind) × (list_any (is_kind_word k) kinds ≡ true) × (list_any (λ name. lacks types k (type_of types name)) names ≡ true)

-- what may be wrong behind the word `index`; of names and kinds there is something to say only where they are listed
abbrev pub HasIndexFlaw : List AttributeType → List ℕ → ConfFaultKind → Type 0
HasIndexFlaw types text Form = (names kinds : List (List ℕ)) → Not (AreListed text names kinds)
HasIndexFlaw types text UnknownName = (names : List (List ℕ)) × (kinds : List (List ℕ)) × AreListed text names kinds × (list_all (is_type types) names ≡ false)
HasIndexFlaw types text Index = (names : List (List ℕ)) × (kinds : List (List ℕ)) × AreListed text names kinds × ((list_all is_some_kind kinds ≡ false) ⊎ IsUnkept types names kinds)
HasIndexFlaw types text Keyword = ⊥
HasIndexFlaw types text Twice = ⊥
HasIndexFlaw types text Subtype = ⊥
HasIndexFlaw types text RuleSyntax = ⊥
HasIndexFlaw types text Suffix = ⊥
HasIndexFlaw types text Collective = ⊥
HasIndexFlaw types text TooManyTypes = ⊥

-- which of them is told first
abbrev pub index_order : List ConfFaultKind
index_order = Form ∷ UnknownName ∷ Index ∷ []

-- ---- a line that is looked at after all others

-- whether a suffix stands on one of these lines
abbrev pub has_suffix : List Line → Bool
has_suffix lines = list_any (λ l. is_first (codes "suffix") l.text) lines

-- the text is no name with an RDN or more
abbrev pub IsNoSuffix : List AttributeType → List ℕ → Type 0
IsNoSuffix types text = (r : TypedRdn) (rs : List TypedRdn) → Not (rdns_in types text ≡ Ok (r ∷ rs))

-- a suffix where one stands above, or that is none; an index at fault
abbrev pub IsLaterFault : List AttributeType → List Line → List ℕ → ConfFaultKind → Type 0
IsLaterFault types above line kind =
    ((kind ≡ Suffix) × (is_first (codes "suffix") line ≡ true) × ((has_suffix above ≡ true) ⊎ IsNoSuffix types (suffix_text line)))
    ⊎ ((is_first (codes "index") line ≡ true) × IsFirstFlaw ConfFaultKind (HasIndexFlaw types (after_word line)) index_order kind)

-- no suffix and no index of these lines is at fault
abbrev pub NoneIsAtFault : List AttributeType → List Line → Type 0
NoneIsAtFault types lines = (above : List Line) (l : Line) (after : List Line) (kind : ConfFaultKind) → lines ≡ above ++ l ∷ after → Not (IsLaterFault types above l.text kind)

-- ---- the whole text

-- lines that define so much, and then one at fault
pub record IsDefinitionFaultAt (lines : List Line) (line : ℕ) (kind : ConfFaultKind) : Type 0 where
  pub above : List Line
  pub bad : Line
  pub after : List Line
  pub is : lines ≡ above ++ bad ∷ after
  pub known : Defined
  pub known_is : defined_by built_in above ≡ Ok known
  pub number_is : line ≡ bad.number
  pub here : IsDefinitionFault known bad.text kind

-- of the suffix and the indexes, the first at fault
pub record IsLaterFaultAt (types : List AttributeType) (lines : List Line) (line : ℕ) (kind : ConfFaultKind) : Type 0 where
  pub above : List Line
  pub bad : Line
  pub after : List Line
  pub is : lines ≡ above ++ bad ∷ after
  pub none_above : NoneIsAtFault types above
  pub number_is : line ≡ bad.number
  pub here : IsLaterFault types above bad.text kind

-- none of them at fault, and no suffix: told with no line
pub record IsWithoutSuffix (types : List AttributeType) (lines : List Line) (line : ℕ) (kind : ConfFaultKind) : Type 0 where
  pub none : NoneIsAtFault types lines
  pub no_suffix : has_suffix lines ≡ false
  pub line_is : line ≡ 0
  pub kind_is : kind ≡ Suffix

-- a line that is at fault beside what is defined above it; or there is none, and a suffix or an index is; or none is, and no suffix stands
abbrev pub IsConfFault : List ℕ → ℕ → ConfFaultKind → Type 0
IsConfFault text line kind =
    IsDefinitionFaultAt (lines_of text) line kind
    ⊎ ((s : Defined) × (defined_by built_in (lines_of text) ≡ Ok s) × (IsLaterFaultAt s.types (lines_of text) line kind ⊎ IsWithoutSuffix s.types (lines_of text) line kind))
