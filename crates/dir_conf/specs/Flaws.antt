-- What the fault of a configuration is of: what a flaw that is told says of the line at fault, beside what is defined above it.
use Rattle.std.specs.Prelude.{◌≡◌, ℕ, Bool, true, false, ◌⊎◌, List, ◌∷◌, ◌++◌, Option, Some, None, Ok, codes}
use Rattle.std.specs.List.{list_any}
use Rattle.std.specs.Str.{str_eq_ignore_ascii_case}
use Rattle.matching.specs.declared.family.Family.TheVariants as families
use Rattle.matching.specs.declared.syntax.Syntax.TheVariants as syntaxes
use Rattle.values.specs.declared.types.AttributeType.{AttributeType}
use Rattle.values.specs.declared.types.TypeSyntax.{TypeSyntax}
use Rattle.values.specs.declared.types.TypeSyntax.TheVariants as type_syntaxes
use Rattle.values.specs.declared.types.EqualityRule.{EqualityRule}
use Rattle.values.specs.declared.types.EqualityRule.TheVariants as rules
use Rattle.values.specs.Types.{first_or, type_of}
use Rattle.definitions.specs.declared.lines.Line.{Line}
use Rattle.definitions.specs.declared.element.Element.{Element}
use Rattle.definitions.specs.declared.type_definition.TypeDefinition.{TypeDefinition}
use Rattle.definitions.specs.declared.class_definition.ClassDefinition.{ClassDefinition}
use Rattle.definitions.specs.Words.{first_word, after_word}
use Rattle.definitions.specs.Lines.{begins_blank, lines_of}
use Rattle.definitions.specs.TypeGrammar.{SpellsType}
use Rattle.definitions.specs.ClassGrammar.{SpellsClass}
use Rattle.schema.specs.TypeRules.{is_equality, is_syntax}
use Rattle.schema.specs.Classes.{is_class}
use Rattle.schema.specs.Conf.{Conf}
use Rattle.schema.specs.FirstFlaws.{Not}
use Rattle.dir_conf.specs.declared.conf_fault.ConfFaultKind.{ConfFaultKind}
use Rattle.dir_conf.specs.declared.conf_fault.ConfFaultKind.TheVariants as kinds
use Rattle.dir_conf.specs.declared.reason.ConfFlaw.{ConfFlaw}
use Rattle.dir_conf.specs.declared.reason.ConfFlaw.TheVariants as flaws
use Rattle.dir_conf.specs.declared.reason.UnreadPart.{UnreadPart}
use Rattle.dir_conf.specs.declared.reason.NameField.{NameField}
use Rattle.dir_conf.specs.declared.reason.NameField.TheVariants as fields
use Rattle.dir_conf.specs.declared.reason.SyntaxRule.{SyntaxRule}
use Rattle.dir_conf.specs.declared.reason.SyntaxRule.TheVariants as syntax_rules
use Rattle.dir_conf.specs.declared.reason.ConfReason.{ConfReason}
use Rattle.dir_conf.specs.Configurations.{Defined, built_in, defined_by, is_first, is_type, superior_of, suffix_text, conf_of}
use Rattle.dir_conf.specs.FaultyLines.{type_below, AreListed, is_kind_word, is_some_kind, lacks, has_suffix, IsNoSuffix, IsConfFault}

-- ---- which kind of fault a flaw is

abbrev pub kind_of : ConfFlaw → ConfFaultKind
kind_of (flaws.Keyword word) = kinds.Keyword
kind_of flaws.Indented = kinds.Form
kind_of (flaws.Unread of part) = kinds.Form
kind_of flaws.Lists = kinds.Form
kind_of (flaws.Twice of word) = kinds.Twice
kind_of (flaws.UnknownName of field word) = kinds.UnknownName
kind_of (flaws.UnknownIndexed word) = kinds.UnknownName
kind_of (flaws.Subtype of superior) = kinds.Subtype
kind_of (flaws.RuleSyntax of rule stated_rule stated_syntax) = kinds.RuleSyntax
kind_of flaws.NoSuffix = kinds.Suffix
kind_of flaws.SecondSuffix = kinds.Suffix
kind_of (flaws.BadSuffix part) = kinds.Suffix
kind_of (flaws.UnknownKind word) = kinds.Index
kind_of (flaws.NoRule word kind) = kinds.Index
kind_of (flaws.Collective of) = kinds.Collective
kind_of (flaws.TooManyTypes of) = kinds.TooManyTypes

-- ---- words

-- this is one of them
pub record IsAmong (word : List ℕ) (words : List (List ℕ)) : Type 0 where
  pub before : List (List ℕ)
  pub after : List (List ℕ)
  pub is : words ≡ before ++ word ∷ after

-- it is one of them, and stands once more behind that, in any case
pub record IsTwin (word : List ℕ) (words : List (List ℕ)) : Type 0 where
  pub before : List (List ℕ)
  pub after : List (List ℕ)
  pub is : words ≡ before ++ word ∷ after
  pub again : list_any (λ other. str_eq_ignore_ascii_case other word) after ≡ true

-- what a definition is called by: its first name, or its OID where it has none
abbrev pub name_of : Element → List ℕ
name_of e = first_or e.names e.oid

-- the OID or a name of a definition that is there already, or a name that stands twice in it
abbrev pub IsTaken : (List ℕ → Bool) → Element → List ℕ → Type 0
IsTaken is_there e word = (IsAmong word (e.oid ∷ e.names) × (is_there word ≡ true)) ⊎ IsTwin word e.names

-- one of these names that is none of what is there
abbrev pub IsMissing : (List ℕ → Bool) → List (List ℕ) → List ℕ → Type 0
IsMissing is_there names word = IsAmong word names × (is_there word ≡ false)

-- ---- a definition of a type

abbrev pub rule_of : SyntaxRule → EqualityRule
rule_of syntax_rules.Integer = rules.Plain families.Integer
rule_of syntax_rules.Name = rules.Name

abbrev pub syntax_of : SyntaxRule → TypeSyntax
syntax_of syntax_rules.Integer = type_syntaxes.Plain syntaxes.Integer
syntax_of syntax_rules.Name = type_syntaxes.Name

-- the type has this rule, and not its syntax
pub record NeedsSyntax (types : List AttributeType) (d : TypeDefinition) (rule : SyntaxRule) : Type 0 where
  pub up : Option ℕ
  pub up_is : superior_of types d.superior ≡ Some up
  pub has_rule : is_equality (rule_of rule) (type_below types d up).equality ≡ true
  pub no_syntax : is_syntax (syntax_of rule) (type_below types d up).syntax ≡ false

-- what a flaw says of it; which kind of fault that is, is said elsewhere
abbrev pub IsTypeFlaw : List AttributeType → TypeDefinition → ConfFlaw → Type 0
IsTypeFlaw types d (flaws.TooManyTypes of) = of ≡ name_of d.element
IsTypeFlaw types d (flaws.Twice of word) = (of ≡ name_of d.element) × IsTaken (is_type types) d.element word
IsTypeFlaw types d (flaws.Collective of) = of ≡ name_of d.element
IsTypeFlaw types d (flaws.UnknownName of field word) = (of ≡ name_of d.element) × (field ≡ fields.Superior) × (d.superior ≡ Some word) × (is_type types word ≡ false)
IsTypeFlaw types d (flaws.Subtype of superior) = (of ≡ name_of d.element) × (d.superior ≡ Some superior)
IsTypeFlaw types d (flaws.RuleSyntax of rule stated_rule stated_syntax) = (of ≡ name_of d.element) × (stated_rule ≡ d.equality) × (stated_syntax ≡ d.syntax) × NeedsSyntax types d rule
IsTypeFlaw types d (flaws.Keyword word) = ⊥
IsTypeFlaw types d flaws.Indented = ⊥
IsTypeFlaw types d (flaws.Unread of part) = ⊥
IsTypeFlaw types d flaws.Lists = ⊥
IsTypeFlaw types d (flaws.UnknownIndexed word) = ⊥
IsTypeFlaw types d flaws.NoSuffix = ⊥
IsTypeFlaw types d flaws.SecondSuffix = ⊥
IsTypeFlaw types d (flaws.BadSuffix part) = ⊥
IsTypeFlaw types d (flaws.UnknownKind word) = ⊥
IsTypeFlaw types d (flaws.NoRule word kind) = ⊥

-- ---- a definition of a class

-- the names that a field states
abbrev pub names_in : ClassDefinition → NameField → List (List ℕ)
names_in d fields.Superior = d.superiors
names_in d fields.Must = d.must
names_in d fields.May = d.may

-- whether a name is one of a class or a type that the field may name
abbrev pub is_known : Defined → NameField → List ℕ → Bool
is_known s fields.Superior = is_class s.classes
is_known s fields.Must = is_type s.types
is_known s fields.May = is_type s.types

abbrev pub IsClassFlaw : Defined → ClassDefinition → ConfFlaw → Type 0
IsClassFlaw s d (flaws.Twice of word) = (of ≡ name_of d.element) × IsTaken (is_class s.classes) d.element word
IsClassFlaw s d (flaws.UnknownName of field word) = (of ≡ name_of d.element) × IsMissing (is_known s field) (names_in d field) word
IsClassFlaw s d (flaws.TooManyTypes of) = ⊥
IsClassFlaw s d (flaws.Collective of) = ⊥
IsClassFlaw s d (flaws.Subtype of superior) = ⊥
IsClassFlaw s d (flaws.RuleSyntax of rule stated_rule stated_syntax) = ⊥
IsClassFlaw s d (flaws.Keyword word) = ⊥
IsClassFlaw s d flaws.Indented = ⊥
IsClassFlaw s d (flaws.Unread of part) = ⊥
IsClassFlaw s d flaws.Lists = ⊥
IsClassFlaw s d (flaws.UnknownIndexed word) = ⊥
IsClassFlaw s d flaws.NoSuffix = ⊥
IsClassFlaw s d flaws.SecondSuffix = ⊥
IsClassFlaw s d (flaws.BadSuffix part) = ⊥
IsClassFlaw s d (flaws.UnknownKind word) = ⊥
IsClassFlaw s d (flaws.NoRule word kind) = ⊥

-- ---- a line, beside what is defined above it

-- the flaw of what can't be read, whatever that tells of it
abbrev pub IsUnread : ConfFlaw → Type 0
IsUnread flaw = (of : Option (List ℕ)) × (part : UnreadPart) × (flaw ≡ flaws.Unread of part)

-- behind the word `attributetype`
abbrev pub IsFlawOfType : List AttributeType → List ℕ → ConfFlaw → Type 0
IsFlawOfType types text flaw =
    (IsUnread flaw × ((d : TypeDefinition) → Not (SpellsType text d)))
    ⊎ ((d : TypeDefinition) × SpellsType text d × IsTypeFlaw types d flaw)

-- behind the word `objectclass`
abbrev pub IsFlawOfClass : Defined → List ℕ → ConfFlaw → Type 0
IsFlawOfClass s text flaw =
    (IsUnread flaw × ((d : ClassDefinition) → Not (SpellsClass text d)))
    ⊎ ((d : ClassDefinition) × SpellsClass text d × IsClassFlaw s d flaw)

-- its first word is told; or it begins with a blank; or what it defines has this flaw
abbrev pub IsDefinitionFlaw : Defined → List ℕ → ConfFlaw → Type 0
IsDefinitionFlaw s line flaw =
    (flaw ≡ flaws.Keyword (first_word line))
    ⊎ (((flaw ≡ flaws.Indented) × (begins_blank line ≡ true))
    ⊎ (((is_first (codes "attributetype") line ≡ true) × IsFlawOfType s.types (after_word line) flaw)
    ⊎ ((is_first (codes "objectclass") line ≡ true) × IsFlawOfClass s (after_word line) flaw)))

-- ---- a line that is looked at after all others

-- names and kinds are listed, and this is wrong with them
pub record IsListFlaw (types : List AttributeType) (text : List ℕ) (Is : List (List ℕ) → List (List ℕ) → Type 0) : Type 0 where
  pub names : List (List ℕ)
  pub kinds : List (List ℕ)
  pub listed : AreListed text names kinds
  pub is : Is names kinds

-- behind the word `index`
abbrev pub IsIndexFlaw : List AttributeType → List ℕ → ConfFlaw → Type 0
IsIndexFlaw types text flaws.Lists = (names kinds : List (List ℕ)) → Not (AreListed text names kinds)
IsIndexFlaw types text (flaws.UnknownIndexed word) = IsListFlaw types text (λ names kinds. IsMissing (is_type types) names word)
IsIndexFlaw types text (flaws.UnknownKind word) = IsListFlaw types text (λ names kinds. IsMissing is_some_kind kinds word)
IsIndexFlaw types text (flaws.NoRule word kind) = IsListFlaw types text (λ names kinds. (list_any (is_kind_word kind) kinds ≡ true) × IsAmong word names × (lacks types kind (type_of types word) ≡ true))
IsIndexFlaw types text (flaws.Twice of word) = ⊥
IsIndexFlaw types text (flaws.UnknownName of field word) = ⊥
IsIndexFlaw types text (flaws.TooManyTypes of) = ⊥
IsIndexFlaw types text (flaws.Collective of) = ⊥
IsIndexFlaw types text (flaws.Subtype of superior) = ⊥
IsIndexFlaw types text (flaws.RuleSyntax of rule stated_rule stated_syntax) = ⊥
IsIndexFlaw types text (flaws.Keyword word) = ⊥
IsIndexFlaw types text flaws.Indented = ⊥
IsIndexFlaw types text (flaws.Unread of part) = ⊥
IsIndexFlaw types text flaws.NoSuffix = ⊥
IsIndexFlaw types text flaws.SecondSuffix = ⊥
IsIndexFlaw types text (flaws.BadSuffix part) = ⊥

-- a suffix stands above this one; or it is no name, whatever part of it is told; or an index is at fault
abbrev pub IsLaterFlaw : List AttributeType → List Line → List ℕ → ConfFlaw → Type 0
IsLaterFlaw types above line flaw =
    ((is_first (codes "suffix") line ≡ true) × (flaw ≡ flaws.SecondSuffix) × (has_suffix above ≡ true))
    ⊎ (((is_first (codes "suffix") line ≡ true) × ((part : List ℕ) × (flaw ≡ flaws.BadSuffix part)) × IsNoSuffix types (suffix_text line))
    ⊎ ((is_first (codes "index") line ≡ true) × IsIndexFlaw types (after_word line) flaw))

-- ---- the whole text

-- a line with this number, behind lines that define so much
pub record IsDefinitionFlawAt (lines : List Line) (line : ℕ) (flaw : ConfFlaw) : Type 0 where
  pub above : List Line
  pub bad : Line
  pub after : List Line
  pub is : lines ≡ above ++ bad ∷ after
  pub known : Defined
  pub known_is : defined_by built_in above ≡ Ok known
  pub number_is : line ≡ bad.number
  pub here : IsDefinitionFlaw known bad.text flaw

pub record IsLaterFlawAt (types : List AttributeType) (lines : List Line) (line : ℕ) (flaw : ConfFlaw) : Type 0 where
  pub above : List Line
  pub bad : Line
  pub after : List Line
  pub is : lines ≡ above ++ bad ∷ after
  pub number_is : line ≡ bad.number
  pub here : IsLaterFlaw types above bad.text flaw

-- a definition; or, of the suffix and the indexes under all that is defined, one; or that no suffix stands
abbrev pub IsFlawAt : List Line → ℕ → ConfFlaw → Type 0
IsFlawAt lines line flaw =
    IsDefinitionFlawAt lines line flaw
    ⊎ ((s : Defined) × (defined_by built_in lines ≡ Ok s) × (IsLaterFlawAt s.types lines line flaw ⊎ ((line ≡ 0) × (flaw ≡ flaws.NoSuffix))))

-- the fault that the text has, and the line on which it stands has this flaw
pub record IsReason (text : List ℕ) (line : ℕ) (flaw : ConfFlaw) : Type 0 where
  pub fault : IsConfFault text line (kind_of flaw)
  pub flaw_is : IsFlawAt (lines_of text) line flaw

-- a configuration, or a text with this reason
abbrev pub Explains : List ℕ → Option ConfReason → Type 0
Explains text None = (conf : Conf) × (conf_of text ≡ Ok conf)
Explains text (Some r) = IsReason text r.line r.flaw
