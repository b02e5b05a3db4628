-- What is said of a record that is refused.
use Rattle.std.specs.Prelude.{◌≡◌, ℕ, ◌++◌, Bool, true, false, List, [], Option, Some, None, Ok, IfSome, codes, slice_get}
use Rattle.std.specs.FinMap as finite
use Rattle.std.specs.Fmt.{decimal}
use Rattle.std.specs.Option.{option_map, unwrap_or}
use Rattle.ldif_lines.specs.declared.raw_record.RawRecord.{RawRecord}
use Rattle.ldif.specs.Attrs.{Attr}
use Rattle.ldif.specs.Parts.{IsPartLine}
use Rattle.ldif.specs.Reading.{reading}
use Rattle.ldif.specs.declared.parts.Part.{Part}
use Rattle.ldif.specs.declared.parts.Part.TheVariants as parts
use Rattle.ldif.specs.declared.record.Control.{Control}
use Rattle.ldif.specs.declared.record.Mod.{Mod}
use Rattle.ldif.specs.declared.record.Mode.{Mode}
use Rattle.ldif.specs.declared.record.Record.{Record}
use Rattle.paths.specs.Paths.{Path, parent_of}
use Rattle.schema.specs.Conf.{Conf}
use Rattle.schema.specs.Rdns.{Ava}
use Rattle.entries.specs.Entries.{EntryContent}
use Rattle.tree.specs.Directories.{Entries}
use Rattle.tree.specs.Operations.{controls_of}
use Rattle.reasons.specs.Reasons.{Explains}
use Rattle.reasons.specs.Asked.{IsAt, name_of_record, lines_of_record, blocks_of_record, rdn_of_record, superior_of_record}
use Rattle.reasons.specs.declared.reason.LineReason.{LineReason}
use Rattle.reasons.specs.declared.reason.LineReason.TheVariants as line_reasons
use Rattle.reasons.specs.declared.reason.BlockReason.{BlockReason}
use Rattle.reasons.specs.declared.reason.ValueReason.{ValueReason}
use Rattle.reasons.specs.declared.reason.EntryReason.{EntryReason}
use Rattle.reasons.specs.declared.reason.EntryReason.TheVariants as entry_reasons
use Rattle.reasons.specs.declared.reason.Reason.{Reason}
use Rattle.reasons.specs.declared.reason.Reason.TheVariants as reasons
use Rattle.sentences.specs.Cuts.{sentence_of}
use Rattle.sentences.specs.Shown.{shown_name, quoted}
use Rattle.sentences.specs.ClassWords.{many_values, not_allowed, unknown_class_words, IsLackedWords}
use Rattle.sentences.specs.Missing.{RefusedLines, there_words, below_words, parent_text, path_named, IsMissingWords}
use Rattle.sentences.specs.NameWords.{IsNameWords}
use Rattle.sentences.specs.PartWords.{type_words, line_words, block_words, value_words}

-- a record that is refused: under a configuration, with these entries, and where its name stands, if that was found
pub record Case : Type 0 where
  pub conf : Conf
  pub entries : Entries
  pub raw : RawRecord
  pub asked : Record
  pub path : Option Path
  -- the lines of records that were refused before it, and were to add entries
  pub refused : RefusedLines

-- ---- lines of the text

abbrev pub number_at : RawRecord → Option ℕ → Option ℕ
number_at raw None = None
number_at raw (Some index) = slice_get raw.numbers.items index

-- the number of the text's line on which a part of a record begins, if a line says that part
abbrev pub BeginsOn : RawRecord → Record → Part → Option ℕ → Type 0
BeginsOn raw asked part number =
    (index : Option ℕ) × ((mode : Mode) → reading mode raw.first raw.lines ≡ Ok asked → IsPartLine mode asked part raw.lines index)
    × (number ≡ number_at raw index)

-- the part of a record in which it is refused, where that is one by itself
abbrev pub part_of : Reason → Option Part
part_of (reasons.CriticalControl control) = Some (parts.Control control)
part_of (reasons.Line line why) = Some (parts.Attribute line)
part_of (reasons.Block block why) = Some (parts.Block block)
part_of (reasons.Value block value why) = Some (parts.Value block value)
part_of (reasons.NewRdn why) = Some parts.NewRdn
part_of (reasons.Superior why) = Some parts.NewSuperior
part_of _ = None

abbrev pub PartBeginsOn : RawRecord → Record → Option Part → Option ℕ → Type 0
PartBeginsOn raw asked None number = number ≡ None
PartBeginsOn raw asked (Some part) number = BeginsOn raw asked part number

-- ---- what is wrong

abbrev pub shown_control : Option Control → List ℕ
shown_control None = []
shown_control (Some control) = shown_name control.oid

-- a control that is critical, by its OID
unfoldable pub control_words : List Control → ℕ → List ℕ
control_words controls index = codes "control " ++ shown_control (slice_get controls index) ++ codes " is critical, and no control is known"

-- the number of the text's line on which an earlier line begins that a line equals
abbrev pub EarlierBeginsOn : RawRecord → Record → LineReason → Option ℕ → Type 0
EarlierBeginsOn raw asked (line_reasons.EqualTo earlier) number = BeginsOn raw asked (parts.Attribute earlier) number
EarlierBeginsOn raw asked line_reasons.UnknownType number = number ≡ None
EarlierBeginsOn raw asked line_reasons.UsersCantChange number = number ≡ None
EarlierBeginsOn raw asked line_reasons.BadSyntax number = number ≡ None

-- a line of an add
abbrev pub IsLineWords : Case → LineReason → Option Attr → List ℕ → Type 0
IsLineWords c why None words = words ≡ []
IsLineWords c why (Some l) words =
    (number : Option ℕ) × EarlierBeginsOn c.raw c.asked why number × (words ≡ line_words c.conf (lines_of_record c.asked) number l why)

abbrev pub words_of_block : BlockReason → Option Mod → List ℕ
words_of_block why None = []
words_of_block why (Some block) = block_words block why

-- a value of a block; which equal one is there is tested
abbrev pub IsValueWords : Case → ValueReason → Mod → Option (List ℕ) → List ℕ → Type 0
IsValueWords c why block None words = words ≡ []
IsValueWords c why block (Some value) words = (there : Option (List ℕ)) × (words ≡ value_words c.conf there block.attr value why)

abbrev pub IsBlockValueWords : Case → ValueReason → ℕ → Option Mod → List ℕ → Type 0
IsBlockValueWords c why value None words = words ≡ []
IsBlockValueWords c why value (Some block) words = IsValueWords c why block (slice_get block.values value) words

abbrev pub entry_at : Entries → Option Path → Option EntryContent
entry_at d None = None
entry_at d (Some path) = finite.get d path

abbrev pub rdn_value : Option EntryContent → ℕ → Option Ava
rdn_value None ava = None
rdn_value (Some e) ava = slice_get e.rdn ava

-- that of the entry as it is there
abbrev pub rdn_value_at : Case → ℕ → Option Ava
rdn_value_at c ava = rdn_value (entry_at c.entries c.path) ava

-- a value of the entry's RDN that is to go
abbrev pub rdn_value_words : Conf → Option Ava → List ℕ
rdn_value_words conf None = codes "a value of its RDN is to go"
rdn_value_words conf (Some p) = type_words conf p.0 ++ codes ": " ++ quoted p.1 ++ codes " is in its RDN, so it has to stay"

-- the entry as it is to be
abbrev pub IsEntryWords : Case → EntryReason → List ℕ → Type 0
IsEntryWords c entry_reasons.NoObjectClass words = words ≡ codes "the entry has no objectClass"
IsEntryWords c (entry_reasons.TypeNotAllowed found) words = words ≡ not_allowed c.conf found
IsEntryWords c (entry_reasons.ManyValues single count) words = words ≡ many_values c.conf single count
IsEntryWords c (entry_reasons.UnknownClass value) words = words ≡ unknown_class_words c.conf c.asked
IsEntryWords c (entry_reasons.LacksType class needed) words = IsLackedWords c.conf class needed words

-- a name that no entry has, and where it leads to
abbrev pub IsMissing : Case → List ℕ → Option Path → List ℕ → Type 0
IsMissing c name path words = IsMissingWords c.conf c.entries c.refused name path words

-- the name above that of the record
abbrev pub IsParentMissing : Case → List ℕ → Type 0
IsParentMissing c words = IsMissing c (parent_text (name_of_record c.asked)) (option_map parent_of c.path) words

-- the new superior, or where none is named the one above
abbrev pub IsSuperiorMissing : Case → Option (List ℕ) → List ℕ → Type 0
IsSuperiorMissing c None words = IsParentMissing c words
IsSuperiorMissing c (Some name) words = IsMissing c name (path_named c.conf name) words

-- a reason
abbrev pub IsWords : Case → Reason → List ℕ → Type 0
IsWords c (reasons.CriticalControl control) words = words ≡ control_words (controls_of c.asked) control
IsWords c (reasons.Line line why) words = IsLineWords c why (slice_get (lines_of_record c.asked) line) words
IsWords c (reasons.Block block why) words = words ≡ words_of_block why (slice_get (blocks_of_record c.asked) block)
IsWords c (reasons.Value block value why) words = IsBlockValueWords c why value (slice_get (blocks_of_record c.asked) block) words
IsWords c (reasons.NoRdnValue ava) words = words ≡ rdn_value_words c.conf (rdn_value_at c ava)
IsWords c reasons.IsSuffix words = words ≡ codes "the entry of the suffix keeps its name and its place"
IsWords c reasons.BelowItself words = words ≡ codes "it can't be moved below itself"
IsWords c reasons.IsTaken words = words ≡ codes "another entry has the new name"
IsWords c reasons.Full words = words ≡ codes "the directory has 4,294,967,295 entries, and takes no more"
IsWords c (reasons.Entry why) words = IsEntryWords c why words
IsWords c (reasons.Name why) words = IsNameWords c.conf (codes "the name") (name_of_record c.asked) why words
IsWords c reasons.IsThere words = words ≡ there_words c.conf c.entries c.path
IsWords c reasons.NoParent words = IsParentMissing c words
IsWords c reasons.NoEntry words = IsMissing c (name_of_record c.asked) c.path words
IsWords c reasons.HasChildren words = words ≡ below_words c.entries c.path
IsWords c (reasons.NewRdn why) words = IsNameWords c.conf (codes "newrdn") (rdn_of_record c.asked) why words
IsWords c (reasons.Superior why) words = IsNameWords c.conf (codes "newsuperior") (unwrap_or (superior_of_record c.asked) []) why words
IsWords c reasons.NoSuperior words = IsSuperiorMissing c (superior_of_record c.asked) words

-- those that say what is wrong with the place of an entry
abbrev pub is_place : Reason → Bool
is_place (reasons.CriticalControl control) = false
is_place (reasons.Line line why) = false
is_place (reasons.Block block why) = false
is_place (reasons.Value block value why) = false
is_place (reasons.Entry why) = false
is_place (reasons.Name why) = false
is_place (reasons.NewRdn why) = false
is_place (reasons.Superior why) = false
is_place _ = true

-- ---- the sentence

abbrev pub at_line : Option ℕ → List ℕ
at_line None = []
at_line (Some number) = codes "line " ++ decimal number ++ codes ", "

-- where in the text, and of which entry
unfoldable pub place_words : Option ℕ → List ℕ → List ℕ
place_words number name = at_line number ++ shown_name name ++ codes ": "

-- the sentence of a reason
pub record IsSentenceOf (c : Case) (reason : Reason) (sentence : List ℕ) : Type 0 where
  pub number : Option ℕ
  pub words : List ℕ
  pub line : PartBeginsOn c.raw c.asked (part_of reason) number
  pub why : IsWords c reason words
  pub is : sentence ≡ sentence_of (place_words number (name_of_record c.asked) ++ words)

-- the sentence tells the reason, and where there is none nothing is told
abbrev pub TellsReason : Case → Option Reason → Option (List ℕ) → Type 0
TellsReason c None sentence = sentence ≡ None
TellsReason c (Some reason) None = ⊥
TellsReason c (Some reason) (Some sentence) = IsSentenceOf c reason sentence

-- what is told of a record: why it is refused
pub record IsTold (conf : Conf) (mode : Mode) (d : Entries) (refused : RefusedLines) (raw : RawRecord) (asked : Record) (sentence : Option (List ℕ)) : Type 0 where
  pub reason : Option Reason
  pub path : Option Path
  pub explains : Explains conf mode d asked reason
  pub at : IfSome path (IsAt conf asked)
  pub told : TellsReason (record { conf = conf; entries = d; raw = raw; asked = asked; path = path; refused = refused }) reason sentence
