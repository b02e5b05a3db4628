-- Which faults of a dir.conf are reported, and which are left out, since the line needs what one at fault above it would have defined.
use Rattle.std.specs.Prelude.{◌≡◌, ℕ, ◌-◌, Bool, true, false, List, [], ◌∷◌, ◌++◌, fold, map, if◌then◌else◌, Option, None, option_and_then, unwrap_or}
use Rattle.std.specs.List.{AllByRecursion, flat_map, find}
use Rattle.std.specs.Option.{option_map, option_map_or}
use Rattle.std.specs.Str.{str_eq_ignore_ascii_case}
use Rattle.definitions.specs.declared.lines.Line.{Line}
use Rattle.definitions.specs.Lines.{lines_of}
use Rattle.dir_conf.specs.declared.conf_fault.ConfFaultKind.{ConfFaultKind}
use Rattle.dir_conf.specs.declared.conf_fault.ConfFaultKind.TheVariants as kinds
use Rattle.dir_conf.specs.declared.reason.NameField.{NameField}
use Rattle.dir_conf.specs.declared.reason.NameField.TheVariants as fields
use Rattle.dir_conf.specs.declared.reason.ConfFlaw.{ConfFlaw}
use Rattle.dir_conf.specs.declared.reason.ConfFlaw.TheVariants as flaws
use Rattle.dir_conf.specs.declared.reason.ConfReason.{ConfReason}
use Rattle.dir_conf.specs.Flaws.{Explains}
use Rattle.checks.specs.declared.conf_faults.ConfLineFault.{ConfLineFault}
use Rattle.checks.specs.declared.conf_faults.FoundFault.{FoundFault}
use Rattle.checks.specs.declared.lost_names.LostName.{LostName}
use Rattle.checks.specs.ConfFaults.{commented, most_faults, AreFirstFaults}
use Rattle.checks.specs.LostNames.{lost_types, lost_classes, line_at, is_of_class}

-- ---- what the lines of faults would have defined

-- the line with whose report a fault counts: its own, or where it is left out another one
abbrev pub counting_line : FoundFault → ℕ
counting_line f = unwrap_or f.counted_with f.fault.line

-- the types, and the classes, that the line of a fault would have defined, by all their words
abbrev pub types_lost_by : List Line → FoundFault → List LostName
types_lost_by lines f = option_map_or (lost_types (counting_line f)) (line_at lines f.fault.line) []

abbrev pub classes_lost_by : List Line → FoundFault → List LostName
classes_lost_by lines f = option_map_or (lost_classes (counting_line f)) (line_at lines f.fault.line) []

-- those of several faults, in the order in which these are found
abbrev pub types_lost : List Line → List FoundFault → List LostName
types_lost lines found = flat_map (types_lost_by lines) found

abbrev pub classes_lost : List Line → List FoundFault → List LostName
classes_lost lines found = flat_map (classes_lost_by lines) found

-- ---- what a line at fault lacks

-- the line with which those count that lack this name, where it is lost: that of the first fault whose line would have defined it
abbrev pub line_losing : List LostName → List ℕ → Option ℕ
line_losing lost word = option_map (λ n. n.line) (find (λ n. str_eq_ignore_ascii_case n.word word) lost)

-- of the types and the classes that are lost those that a field may name: SUP of a class names a class, and any other field a type
abbrev pub names_for : Bool → NameField → List LostName → List LostName → List LostName
names_for of_class fields.Superior types classes = if of_class then classes else types
names_for of_class fields.Must types classes = types
names_for of_class fields.May types classes = types

-- the line with which this flaw of a line counts, where the name that isn't defined is lost
abbrev pub line_counting : Bool → ConfFlaw → List LostName → List LostName → Option ℕ
line_counting of_class (flaws.UnknownName of field word) types classes = line_losing (names_for of_class field types classes) word
line_counting of_class (flaws.UnknownIndexed word) types classes = line_losing types word
line_counting of_class (flaws.Keyword word) types classes = None
line_counting of_class flaws.Indented types classes = None
line_counting of_class (flaws.Unread of part) types classes = None
line_counting of_class flaws.Lists types classes = None
line_counting of_class (flaws.Twice of word) types classes = None
line_counting of_class (flaws.Subtype of superior) types classes = None
line_counting of_class (flaws.RuleSyntax of rule stated_rule stated_syntax) types classes = None
line_counting of_class flaws.NoSuffix types classes = None
line_counting of_class flaws.SecondSuffix types classes = None
line_counting of_class (flaws.BadSuffix part) types classes = None
line_counting of_class (flaws.UnknownKind word) types classes = None
line_counting of_class (flaws.NoRule word kind) types classes = None
line_counting of_class (flaws.Collective of) types classes = None
line_counting of_class (flaws.TooManyTypes of) types classes = None

abbrev pub is_unknown_name : ConfFaultKind → Bool
is_unknown_name kinds.UnknownName = true
is_unknown_name kinds.Keyword = false
is_unknown_name kinds.Form = false
is_unknown_name kinds.Twice = false
is_unknown_name kinds.Subtype = false
is_unknown_name kinds.RuleSyntax = false
is_unknown_name kinds.Suffix = false
is_unknown_name kinds.Index = false
is_unknown_name kinds.Collective = false
is_unknown_name kinds.TooManyTypes = false

-- a text is explained: the name that its first fault lacks is lost, and it counts with this line; or it isn't, and it counts with none
pub record IsExplained (left : List ℕ) (of_class : Bool) (types classes : List LostName) (counted_with : Option ℕ) : Type 0 where
  pub why : Option ConfReason
  pub explains : Explains left why
  pub counted : counted_with ≡ option_and_then (λ r. line_counting of_class r.flaw types classes) why

-- a fault of a name that isn't defined counts so; any other is never left out
abbrev pub CountsAs : Bool → List ℕ → Bool → List LostName → List LostName → Option ℕ → Type 0
CountsAs true left of_class types classes counted_with = IsExplained left of_class types classes counted_with
CountsAs false left of_class types classes counted_with = counted_with ≡ None

-- the first fault of a text counts with this line, if it is left out, where these names are lost
abbrev pub Counts : List Line → List ℕ → List LostName → List LostName → ConfLineFault → Option ℕ → Type 0
Counts lines left types classes f counted_with = CountsAs (is_unknown_name f.kind) left (is_of_class lines f.line) types classes counted_with

-- ---- all of them

-- a text in which the lines of these faults are comments
abbrev pub text_behind : List ℕ → List FoundFault → List ℕ
text_behind text found = fold (λ left f. commented (f.fault.line - 1) left) text found

-- a fault counts as it does beside those that were found before it
abbrev pub CountsBehind : List ℕ → List FoundFault → FoundFault → Type 0
CountsBehind text above f =
    Counts (lines_of text) (text_behind text above) (types_lost (lines_of text) above) (classes_lost (lines_of text) above) f.fault f.counted_with

-- each beside those before it
pub record EachCounts (text : List ℕ) (found : List FoundFault) : Type 0 where
  pub each : (above : List FoundFault) (f : FoundFault) (after : List FoundFault) → found ≡ above ++ f ∷ after → CountsBehind text above f

-- the first faults of a text, at most so many as are looked for, and with which lines those count that are left out
pub record AreFaultsOf (text : List ℕ) (found : List FoundFault) (more : Bool) : Type 0 where
  pub are : AreFirstFaults most_faults text (map (λ f. f.fault) found) more
  pub count : EachCounts text found

-- ---- what is left out is counted

-- a fault of this line is among them, and is reported
pub record IsReportedAt (found : List FoundFault) (line : ℕ) : Type 0 where
  pub above : List FoundFault
  pub reported : FoundFault
  pub after : List FoundFault
  pub is : found ≡ above ++ reported ∷ after
  pub line_is : reported.fault.line ≡ line
  pub not_left_out : reported.counted_with ≡ None

-- each of them is reported, or counts with the line of one that is
abbrev pub EachIsCounted : List FoundFault → Type 0
EachIsCounted found = AllByRecursion (λ f. IsReportedAt found (counting_line f)) found
