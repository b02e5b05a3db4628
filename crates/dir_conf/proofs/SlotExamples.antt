-- Worked examples of index lines, by computation.
use Rattle.std.proofs.Common.{◌≡◌, ℕ, Bool, true, false, List, [], ◌∷◌, ◌++◌, Result, refl}
use Rattle.std.specs.Prelude.{⊤, codes, Option, Some, None, Ok, Err}
use Rattle.values.specs.declared.types.TypeSyntax.TheVariants as type_syntaxes
use Rattle.values.specs.declared.types.EqualityRule.{EqualityRule}
use Rattle.values.specs.declared.types.EqualityRule.TheVariants as rules
use Rattle.matching.specs.declared.family.Family.TheVariants as families
use Rattle.matching.specs.declared.syntax.Syntax.TheVariants as syntaxes
use Rattle.base.specs.Answers.{each, through}
use Rattle.base.specs.Ascii.{tab}
use Rattle.definitions.specs.declared.lines.Line.{Line}
use Rattle.values.specs.declared.types.AttributeType.{AttributeType}
use Rattle.values.specs.Types.{type_of}
use Rattle.dir_conf.specs.declared.conf_fault.ConfFaultKind.{ConfFaultKind}
use Rattle.dir_conf.specs.declared.conf_fault.ConfFaultKind.TheVariants.{Form, UnknownName, Index}
use Rattle.schema.specs.declared.slots.IndexKind.{IndexKind}
use Rattle.schema.specs.declared.slots.IndexKind.TheVariants.{Equality, Presence, Substrings}
use Rattle.schema.specs.declared.slots.Slot.{Slot}
use Rattle.dir_conf.specs.ConfFaults.{At}
use Rattle.schema.specs.TypeRules.{object_class}
use Rattle.dir_conf.specs.Configurations.{Found, none_found, later_line, found_in}
use Rattle.dir_conf.specs.IndexLines.{in_order, slots_in}

-- a type with both rules or none
abbrev type_with : List ℕ → List ℕ → Option EqualityRule → Bool → AttributeType
type_with oid name equality substrings =
    record { oid = oid; names = name ∷ []; superior = None; syntax = type_syntaxes.Plain syntaxes.Text; equality = equality; is_ordered = false; has_substrings = substrings; single_value = false; is_fixed = false; is_operational = false }

-- objectClass, cn with rules of equality and substrings, and one type without rules
abbrev types : List AttributeType
types = object_class ∷ type_with (codes "2.5.4.3") (codes "cn") (Some (rules.Plain families.Ignore)) true ∷ type_with (codes "1.9") (codes "note") None false ∷ []

abbrev slot : ℕ → IndexKind → Slot
slot t kind = record { type_id = t; kind = kind }

-- what an index line says behind its first word
unfoldable reads : ⊤
unfolding slots_in each type_of
reads = tt

abbrev said : List Slot → Result (List Slot) At
said slots = Ok slots

abbrev refused : ConfFaultKind → Result (List Slot) At
refused kind = Err (4, kind)

two_names_and_kinds : slots_in types 4 (codes " cn,objectClass eq,pres") ≡ said (slot 1 Equality ∷ slot 1 Presence ∷ slot 0 Equality ∷ slot 0 Presence ∷ [])
unfolding reads
two_names_and_kinds = refl

-- by its OID, and in another case
other_names : slots_in types 4 (codes " 2.5.4.3,NOTE pres") ≡ said (slot 1 Presence ∷ slot 2 Presence ∷ [])
unfolding reads
other_names = refl

tabs_and_spaces : slots_in types 4 (tab ∷ codes "  cn" ++ tab ∷ tab ∷ codes "sub " ++ tab ∷ []) ≡ said (slot 1 Substrings ∷ [])
unfolding reads
tabs_and_spaces = refl

kinds_once : slots_in types 4 (codes " cn sub,eq,sub") ≡ said (slot 1 Equality ∷ slot 1 Substrings ∷ [])
unfolding reads
kinds_once = refl

-- ---- the form, before all else

no_words : slots_in types 4 [] ≡ refused Form
unfolding reads
no_words = refl

one_word : slots_in types 4 (codes " cn") ≡ refused Form
unfolding reads
one_word = refl

three_words : slots_in types 4 (codes " cn eq pres") ≡ refused Form
unfolding reads
three_words = refl

comma_behind : slots_in types 4 (codes " cn, eq") ≡ refused Form
unfolding reads
comma_behind = refl

comma_before : slots_in types 4 (codes " ,cn eq") ≡ refused Form
unfolding reads
comma_before = refl

two_commas : slots_in types 4 (codes " cn,,note eq") ≡ refused Form
unfolding reads
two_commas = refl

-- before a name that no type has, and a kind that isn't known
form_first : slots_in types 4 (codes " street EQ,") ≡ refused Form
unfolding reads
form_first = refl

-- ---- then the names, before the kinds

name_second : slots_in types 4 (codes " cn,street EQ") ≡ refused UnknownName
unfolding reads
name_second = refl

-- a name behind one that hasn't the rule
name_before_rule : slots_in types 4 (codes " note,street eq") ≡ refused UnknownName
unfolding reads
name_before_rule = refl

capital_kind : slots_in types 4 (codes " cn EQ") ≡ refused Index
unfolding reads
capital_kind = refl

no_equality : slots_in types 4 (codes " cn,note eq") ≡ refused Index
unfolding reads
no_equality = refl

no_substrings : slots_in types 4 (codes " objectClass eq,sub") ≡ refused Index
unfolding reads
no_substrings = refl

-- ---- in order, each once

unfoldable orders : ⊤
unfolding in_order
orders = tt

each_slot_once : in_order 3 (slot 2 Presence ∷ slot 1 Substrings ∷ slot 1 Equality ∷ slot 2 Presence ∷ slot 0 Presence ∷ slot 1 Substrings ∷ []) ≡ slot 0 Presence ∷ slot 1 Equality ∷ slot 1 Substrings ∷ slot 2 Presence ∷ []
unfolding orders
each_slot_once = refl

-- ---- lines

abbrev line : ℕ → List ℕ → Line
line number text = record { number = number; text = text }

abbrev found : List Slot → Result Found At
found slots = Ok (record { suffix = None; slots = slots })

abbrev found_not : ℕ → ConfFaultKind → Result Found At
found_not number kind = Err (number, kind)

unfoldable passes : ⊤
unfolding through later_line reads
passes = tt

-- several lines, among others
lines_add_up : found_in types none_found (line 1 (codes "# index cn sub") ∷ line 2 (codes "INDEX cn eq") ∷ line 3 [] ∷ line 5 (codes "attributetype index cn sub") ∷ line 6 (codes "index cn,note pres") ∷ []) ≡ found (slot 1 Equality ∷ slot 1 Presence ∷ slot 2 Presence ∷ [])
unfolding passes
lines_add_up = refl

-- the first line with a fault, of whichever kind
first_line_first : found_in types none_found (line 2 (codes "index note sub") ∷ line 3 (codes "index cn") ∷ line 4 (codes "suffix cn") ∷ []) ≡ found_not 2 Index
unfolding passes
first_line_first = refl
