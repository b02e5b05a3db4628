-- The configuration that the text of a dir.conf says, or its first fault.
use Rattle.std.specs.Prelude.{ℕ, Bool, ◌&&◌, ◌||◌, ◌==◌, nat_le, is_some, unwrap_or, ◌-◌, if◌then◌else◌, List, [], ◌∷◌, ◌++◌, take, drop, length, Option, Some, None, Result, Ok, Err, codes}
use Rattle.std.specs.List.{list_any}
use Rattle.std.specs.Option.{option_map}
use Rattle.std.specs.Str.{str_eq_ignore_ascii_case, bytes_eq}
use Rattle.base.specs.Ascii.{quotation_mark, number_sign}
use Rattle.dir_conf.specs.declared.conf_fault.ConfFaultKind.{ConfFaultKind}
use Rattle.dir_conf.specs.declared.conf_fault.ConfFaultKind.TheVariants.{Keyword, Form, Twice, UnknownName, Subtype, RuleSyntax, Suffix, Collective, TooManyTypes}
use Rattle.schema.specs.declared.code.Code.{Code}
use Rattle.values.specs.declared.types.AttributeType.{AttributeType}
use Rattle.values.specs.Types.{is_named, type_of}
use Rattle.base.specs.Answers.{◌>>=◌, each, through}
use Rattle.base.specs.Ends.{without_end, begins_with}
use Rattle.definitions.specs.declared.lines.Line.{Line}
use Rattle.definitions.specs.declared.element.Element.{Element}
use Rattle.definitions.specs.declared.type_definition.TypeDefinition.{TypeDefinition}
use Rattle.definitions.specs.Words.{skip, first_word, after_word}
use Rattle.definitions.specs.Lines.{begins_blank, lines_of}
use Rattle.definitions.specs.declared.class_definition.ClassDefinition.{ClassDefinition}
use Rattle.base.specs.declared.class_kind.ClassKind.{ClassKind}
use Rattle.base.specs.declared.class_kind.ClassKind.TheVariants as kinds
use Rattle.definitions.specs.TypeDefinitions.{type_definition_of}
use Rattle.definitions.specs.ClassDefinitions.{class_definition_of}
use Rattle.dir_conf.specs.DerivedTypes.{type_with}
use Rattle.schema.specs.TypeRules.{object_class, has_twin, up_of, breaks_with, needs_another_syntax}
use Rattle.schema.specs.declared.object_class.ObjectClass.{ObjectClass}
use Rattle.schema.specs.Classes.{is_class_named, class_of, top, extensible_object}
use Rattle.schema.specs.Rdns.{TypedRdn}
use Rattle.schema.specs.Values.{rdns_in}
use Rattle.schema.specs.Conf.{Conf}
use Rattle.schema.specs.declared.slots.Slot.{Slot}
use Rattle.dir_conf.specs.IndexLines.{slots_in, in_order}
use Rattle.dir_conf.specs.NamesInLines.{or_unknown, type_named}
pub use Rattle.dir_conf.specs.ConfFaults.{At}

-- an empty line or a comment
abbrev pub says_nothing : List ℕ → Bool
says_nothing line = length line == 0 || begins_with number_sign line

-- ---- types

-- the OIDs of what every configuration has: objectClass, and the classes top and extensibleObject (RFC 4512, 2.4 and 4.3)
abbrev pub built_in_oids : List (List ℕ)
built_in_oids = codes "2.5.4.0" ∷ codes "2.5.6.0" ∷ codes "1.3.6.1.4.1.1466.101.120.111" ∷ []

abbrev pub is_built_in : List ℕ → Bool
is_built_in oid = list_any (λ o. bytes_eq o oid) built_in_oids

-- whether it names a type that is there
abbrev pub names_one : Element → AttributeType → Bool
names_one e t = list_any (λ n. is_named n t) (e.oid ∷ e.names)

abbrev pub is_taken : List AttributeType → Element → Bool
is_taken types e = list_any (names_one e) types || has_twin e.names

-- the type above, of those defined so far; none where there is no type of this name
abbrev pub superior_of : List AttributeType → Option (List ℕ) → Option (Option ℕ)
superior_of types None = Some None
superior_of types (Some name) = option_map (λ t. Some t) (type_of types name)

-- what is wrong with a type beside the one above it
abbrev pub flaw_of : AttributeType → Option AttributeType → Option ConfFaultKind
flaw_of new up = if breaks_with new up then Some Subtype else (if needs_another_syntax new then Some RuleSyntax else None)

abbrev pub unless : ℕ → Option ConfFaultKind → Result (List AttributeType) At → Result (List AttributeType) At
unless line None answer = answer
unless line (Some kind) answer = Err (line, kind)

abbrev pub added : List AttributeType → ℕ → AttributeType → Option AttributeType → Result (List AttributeType) At
added types line new up = unless line (flaw_of new up) (Ok (types ++ new ∷ []))

abbrev pub below : List AttributeType → ℕ → TypeDefinition → Option (Option ℕ) → Result (List AttributeType) At
below types line d None = Err (line, UnknownName)
below types line d (Some number) = added types line (type_with d number (up_of types number)) (up_of types number)

-- what is wrong with a definition beside the types that are there, of which there are at most 65,535
abbrev pub refused : List AttributeType → TypeDefinition → Option ConfFaultKind
refused types d =
    if nat_le 65535 (length types) then Some TooManyTypes
    else (if is_taken types d.element then Some Twice
    else (if d.is_collective then Some Collective else None))

-- a definition of what is built in is passed over
unfoldable pub placed : List AttributeType → ℕ → Option TypeDefinition → Result (List AttributeType) At
placed types line None = Err (line, Form)
placed types line (Some d) =
    if is_built_in d.element.oid then Ok types
    else unless line (refused types d) (below types line d (superior_of types d.superior))

abbrev pub is_first : List ℕ → List ℕ → Bool
is_first word line = str_eq_ignore_ascii_case (first_word line) word

-- ---- what is defined: types and classes

pub record Defined : Type 0 where
  pub types : List AttributeType
  pub classes : List ObjectClass

-- these types and these classes
abbrev pub types_and_classes : List AttributeType → List ObjectClass → Defined
types_and_classes types classes = record { types = types; classes = classes }

abbrev pub built_in : Defined
built_in = record { types = object_class ∷ []; classes = top ∷ extensible_object ∷ [] }

abbrev pub is_type : List AttributeType → List ℕ → Bool
is_type types name = list_any (is_named name) types

abbrev pub shares_class_name : Element → ObjectClass → Bool
shares_class_name e known = list_any (λ n. is_class_named n known) (e.oid ∷ e.names)

abbrev pub is_class_taken : List ObjectClass → Element → Bool
is_class_taken classes e = list_any (shares_class_name e) classes || has_twin e.names

-- what a name stands for, of what is defined so far
abbrev pub class_named : List ObjectClass → ℕ → List ℕ → Result ℕ At
class_named classes line name = or_unknown line (class_of classes name)

-- a class is structural where its definition doesn't say (RFC 4512, 4.1.1)
abbrev pub kind_with : Option ClassKind → ClassKind
kind_with stated = unwrap_or stated kinds.Structural

-- with the numbers of the classes and types that it names
abbrev pub class_from : ClassDefinition → List ℕ → List ℕ → List ℕ → ObjectClass
class_from d superiors must may = record { oid = d.element.oid; names = d.element.names; kind = kind_with d.kind; superiors = superiors; must = must; may = may }

-- the class that a definition defines
unfoldable pub class_with : Defined → ℕ → ClassDefinition → Result ObjectClass At
class_with s line d = do
  superiors ← each (class_named s.classes line) d.superiors
  must ← each (type_named s.types line) d.must
  may ← each (type_named s.types line) d.may
  Ok (class_from d superiors must may)

abbrev pub with_class : Defined → ObjectClass → Result Defined At
with_class s c = Ok (record s { classes = s.classes ++ c ∷ [] })

unfoldable pub class_placed : Defined → ℕ → Option ClassDefinition → Result Defined At
class_placed s line None = Err (line, Form)
class_placed s line (Some d) =
    if is_built_in d.element.oid then Ok s
    else (if is_class_taken s.classes d.element then Err (line, Twice)
    else class_with s line d >>= with_class s)

abbrev pub with_types : Defined → Result (List AttributeType) At → Result Defined At
with_types s (Ok types) = Ok (record s { types = types })
with_types s (Err e) = Err e

-- a line of the first pass, which passes over the suffix and the indexes
unfoldable pub definition_line : Defined → Line → Result Defined At
definition_line s l =
    if says_nothing l.text then Ok s
    else (if begins_blank l.text then Err (l.number, Form)
    else (if is_first (codes "suffix") l.text || is_first (codes "index") l.text then Ok s
    else (if is_first (codes "attributetype") l.text then with_types s (placed s.types l.number (type_definition_of (after_word l.text)))
    else (if is_first (codes "objectclass") l.text then class_placed s l.number (class_definition_of (after_word l.text))
    else Err (l.number, Keyword)))))

abbrev pub defined_by : Defined → List Line → Result Defined At
defined_by s ls = through definition_line s ls

-- ---- the suffix

-- both ends are `"`
abbrev pub is_quoted : List ℕ → Bool
is_quoted text = nat_le 2 (length text) && begins_with quotation_mark text && bytes_eq (drop (length text - 1) text) (quotation_mark ∷ [])

abbrev pub unquoted : List ℕ → List ℕ
unquoted text = if is_quoted text then take (length text - 2) (drop 1 text) else text

abbrev pub suffix_text : List ℕ → List ℕ
suffix_text line = unquoted (without_end (skip (after_word line)))

-- a suffix has at least one RDN
abbrev pub some_rdns : ℕ → Result (List TypedRdn) Code → Result (Option (List TypedRdn)) At
some_rdns line (Ok []) = Err (line, Suffix)
some_rdns line (Ok (r ∷ rs)) = Ok (Some (r ∷ rs))
some_rdns line (Err code) = Err (line, Suffix)

abbrev pub suffix_at : List AttributeType → ℕ → List ℕ → Result (Option (List TypedRdn)) At
suffix_at types line text = some_rdns line (rdns_in types text)

-- ---- the lines that are looked at after all others

-- the suffix that was found, and the slots that were said so far
pub record Found : Type 0 where
  pub suffix : Option (List TypedRdn)
  pub slots : List Slot

abbrev pub none_found : Found
none_found = record { suffix = None; slots = [] }

abbrev pub with_suffix : Found → Result (Option (List TypedRdn)) At → Result Found At
with_suffix f r = r >>= λ suffix. Ok (record f { suffix = suffix })

abbrev pub with_slots : Found → Result (List Slot) At → Result Found At
with_slots f r = r >>= λ slots. Ok (record f { slots = f.slots ++ slots })

-- a line of the second pass: one suffix, and any indexes
unfoldable pub later_line : List AttributeType → Found → Line → Result Found At
later_line types f l =
    if says_nothing l.text then Ok f
    else (if is_first (codes "index") l.text then with_slots f (slots_in types l.number (after_word l.text))
    else (if is_first (codes "suffix") l.text then (if is_some f.suffix then Err (l.number, Suffix) else with_suffix f (suffix_at types l.number (suffix_text l.text)))
    else Ok f))

abbrev pub found_in : List AttributeType → Found → List Line → Result Found At
found_in types f ls = through (later_line types) f ls

-- ---- the whole text

abbrev pub rules_of : Defined → List Slot → Option (List TypedRdn) → Result Conf At
rules_of s slots None = Err (0, Suffix)
rules_of s slots (Some suffix) = Ok (record { types = s.types; suffix = suffix; slots = in_order (length s.types) slots; classes = s.classes })

abbrev pub conf_on_lines : List Line → Result Conf At
conf_on_lines ls =
    defined_by built_in ls >>= λ s.
    (found_in s.types none_found ls >>= λ found. rules_of s found.slots found.suffix)

-- the types and classes that a text defines, whatever it says of suffixes and indexes
unfoldable pub definitions_of : List ℕ → Result Defined At
definitions_of text = defined_by built_in (lines_of text)

unfoldable pub conf_of : List ℕ → Result Conf At
conf_of text = conf_on_lines (lines_of text)
