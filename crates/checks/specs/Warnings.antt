-- Warnings: what the text of a dir.conf says that counts for nothing, though it is no fault. Rules and syntaxes that aren't known, and definitions of
-- what every configuration has.
use Rattle.std.specs.Prelude.{ℕ, Bool, List, [], ◌∷◌, ◌++◌, map, if◌then◌else◌, Option, Some, None, codes}
use Rattle.std.specs.List.{flat_map}
use Rattle.std.specs.Fmt.{decimal}
use Rattle.values.specs.Types.{first_or}
use Rattle.definitions.specs.declared.lines.Line.{Line}
use Rattle.definitions.specs.declared.element.Element.{Element}
use Rattle.definitions.specs.declared.type_definition.TypeDefinition.{TypeDefinition}
use Rattle.definitions.specs.declared.class_definition.ClassDefinition.{ClassDefinition}
use Rattle.definitions.specs.Words.{after_word}
use Rattle.definitions.specs.Lines.{lines_of}
use Rattle.definitions.specs.TypeDefinitions.{type_definition_of}
use Rattle.definitions.specs.ClassDefinitions.{class_definition_of}
use Rattle.dir_conf.specs.Configurations.{is_built_in, is_first}
use Rattle.dir_conf.specs.RuleNames.{numbered}
use Rattle.checks.specs.NearNames.{is_among, is_one_of, nearest}
use Rattle.checks.specs.Reports.{report, shown_name}

-- ---- what is known (RFC 4517, 3.3 and 4.2)

abbrev pub equality_rules : List (List ℕ)
equality_rules =
    codes "distinguishedNameMatch" ∷ codes "caseIgnoreMatch" ∷ codes "caseIgnoreIA5Match" ∷ codes "caseExactMatch" ∷ codes "caseExactIA5Match"
    ∷ codes "numericStringMatch" ∷ codes "telephoneNumberMatch" ∷ codes "integerMatch" ∷ codes "booleanMatch" ∷ codes "octetStringMatch"
    ∷ codes "objectIdentifierMatch" ∷ []

abbrev pub ordering_rules : List (List ℕ)
ordering_rules =
    codes "caseIgnoreOrderingMatch" ∷ codes "caseExactOrderingMatch" ∷ codes "numericStringOrderingMatch" ∷ codes "integerOrderingMatch"
    ∷ codes "octetStringOrderingMatch" ∷ []

abbrev pub substrings_rules : List (List ℕ)
substrings_rules =
    codes "caseIgnoreSubstringsMatch" ∷ codes "caseIgnoreIA5SubstringsMatch" ∷ codes "caseExactSubstringsMatch" ∷ codes "caseExactIA5SubstringsMatch"
    ∷ codes "numericStringSubstringsMatch" ∷ codes "telephoneNumberSubstringsMatch" ∷ []

-- Country String, Directory String, Printable String, Telephone Number, IA5 String, Numeric String, Boolean, Integer, DN, OID and Octet String
abbrev pub syntaxes : List (List ℕ)
syntaxes = map numbered (codes "11" ∷ codes "15" ∷ codes "44" ∷ codes "50" ∷ codes "26" ∷ codes "36" ∷ codes "7" ∷ codes "27" ∷ codes "12" ∷ codes "38" ∷ codes "40" ∷ [])

abbrev pub is_syntax : List ℕ → Bool
is_syntax oid = is_among syntaxes oid

-- ---- what is printed

abbrev pub line_front : ℕ → List ℕ
line_front line = codes "line " ++ (decimal line ++ codes ": ")

-- with `warning` and `dir.conf` before it
abbrev pub warning : ℕ → List ℕ → List ℕ
warning line what = report (codes "warning") (codes "dir.conf") (line_front line ++ what)

-- what a definition is called by: its first name, or its OID
abbrev pub called : Element → List ℕ
called e = first_or e.names e.oid

abbrev pub near_text : Option (List ℕ) → List ℕ
near_text None = []
near_text (Some known) = codes " (" ++ (known ++ codes " is)")

abbrev pub field_text : Element → List ℕ → List ℕ
field_text e field = called e ++ (codes "'s " ++ (field ++ codes ": "))

abbrev pub word_text : List ℕ → List ℕ
word_text word = shown_name word ++ codes " isn't known"

-- as `cn's EQUALITY: caseIgnoreMach isn't known (caseIgnoreMatch is)`
abbrev pub unknown_text : Element → List ℕ → List ℕ → Option (List ℕ) → List ℕ
unknown_text e field word near = field_text e field ++ (word_text word ++ near_text near)

abbrev pub skipped_text : Element → List ℕ
skipped_text e = called e ++ codes " is built in, and this definition is skipped"

-- ---- a definition on a line with this number

-- a rule that is stated and isn't known, with a known one that it may be meant for
abbrev pub rule_warning : ℕ → Element → List ℕ → List (List ℕ) → Option (List ℕ) → List ℕ
rule_warning line e field known None = []
rule_warning line e field known (Some word) = if is_one_of known word then [] else warning line (unknown_text e field word (nearest known word))

-- a syntax likewise; numbers that differ by one digit are other syntaxes, so none is near
abbrev pub syntax_warning : ℕ → Element → Option (List ℕ) → List ℕ
syntax_warning line e None = []
syntax_warning line e (Some oid) = if is_syntax oid then [] else warning line (unknown_text e (codes "SYNTAX") oid None)

abbrev pub unknown_warnings : ℕ → TypeDefinition → List ℕ
unknown_warnings line d =
    rule_warning line d.element (codes "EQUALITY") equality_rules d.equality
    ++ (rule_warning line d.element (codes "ORDERING") ordering_rules d.ordering
    ++ (rule_warning line d.element (codes "SUBSTR") substrings_rules d.substrings
    ++ syntax_warning line d.element d.syntax))

-- of a definition that can't be read nothing is told
abbrev pub type_warnings : ℕ → Option TypeDefinition → List ℕ
type_warnings line None = []
type_warnings line (Some d) = if is_built_in d.element.oid then warning line (skipped_text d.element) else unknown_warnings line d

abbrev pub class_warnings : ℕ → Option ClassDefinition → List ℕ
class_warnings line None = []
class_warnings line (Some d) = if is_built_in d.element.oid then warning line (skipped_text d.element) else []

-- ---- the whole text

unfoldable pub line_warnings : Line → List ℕ
line_warnings l =
    if is_first (codes "attributetype") l.text then type_warnings l.number (type_definition_of (after_word l.text))
    else (if is_first (codes "objectclass") l.text then class_warnings l.number (class_definition_of (after_word l.text)) else [])

-- line by line, whether the text has faults or not
abbrev pub warnings : List ℕ → List ℕ
warnings text = flat_map line_warnings (lines_of text)
