-- What the records of a text leave of a directory: each is carried out in turn, and one that is refused changes nothing.
use Rattle.std.specs.Prelude.{◌≡◌, ℕ, ◌+◌, Bool, true, false, not, List, [], ◌∷◌, ◌++◌, map, Result, Ok, Err, if◌then◌else◌}
use Rattle.std.specs.List.{fold, flat_map}
use Rattle.std.specs.FinMap as finite
use Rattle.ldif_lines.specs.Records as lines
use Rattle.ldif_lines.specs.Records.{RawRecord}
use Rattle.ldif_lines.specs.declared.raw_record.RawRecord as raws
use Rattle.ldif_lines.specs.Folding.{standard_width}
use Rattle.ldif.specs.declared.fault.LdifFaultKind.{LdifFaultKind}
use Rattle.ldif.specs.declared.record.Record.{Record}
use Rattle.ldif.specs.declared.record.Record.TheVariants as records
use Rattle.ldif.specs.declared.record.Mode.{Mode}
use Rattle.ldif.specs.declared.record.Mode.TheVariants.{Content}
use Rattle.ldif.specs.Reading.{reading}
use Rattle.ldif.specs.Contents.{ContentRecord, write_content_to, readings, reading_of}
use Rattle.schema.specs.declared.code.Code.{Code}
use Rattle.paths.specs.Paths.{Path}
use Rattle.schema.specs.Conf.{Conf}
use Rattle.entries.specs.Entries.{EntryContent}
use Rattle.tree.specs.Directories.{Entries, record_at}
use Rattle.tree.specs.Operations.{apply}
use Rattle.databases.specs.declared.refusal.Outcome.{Outcome}
use Rattle.databases.specs.declared.refusal.Outcome.TheVariants as outcomes
use Rattle.databases.specs.declared.refusal.RecordRefusal.{RecordRefusal}
use Rattle.databases.specs.declared.refusal.RecordRefusal.TheVariants as refusals

-- where a run stands: the entries, how many records were accepted, the line and the refusal of each refused one, and
-- whether it has ended
pub record State : Type 0 where
  pub entries : Entries
  pub accepted : ℕ
  pub refused : List (ℕ × RecordRefusal)
  pub ended : Bool

abbrev pub start : Entries → State
start d = record { entries = d; accepted = 0; refused = []; ended = false }

-- ---- one record

-- a version line by itself is an empty record, which isn't counted
abbrev pub is_empty : Record → Bool
is_empty records.Empty = true
is_empty (records.Content dn attrs) = false
is_empty (records.Add dn controls attrs) = false
is_empty (records.Delete dn controls) = false
is_empty (records.Modify dn controls mods) = false
is_empty (records.ModRdn dn controls newrdn delete_old new_superior) = false

abbrev pub of_change : Entries → Bool → Result Entries Code → Entries × Outcome
of_change d empty (Ok next) = (next, if empty then outcomes.Nothing else outcomes.Accepted)
of_change d empty (Err code) = (d, outcomes.Refused (refusals.Code code))

-- the entries after what was read of a record, and what becomes of it
unfoldable pub outcome : Conf → Mode → Entries → Result Record LdifFaultKind → Entries × Outcome
outcome conf mode d (Ok r) = of_change d (is_empty r) (apply conf mode d r)
outcome conf mode d (Err fault) = (d, outcomes.Refused (refusals.Fault fault))

-- what comes of a record as it stands in a text
abbrev pub outcome_of : Conf → Mode → Entries → raws.RawRecord → Entries × Outcome
outcome_of conf mode d raw = outcome conf mode d (reading mode raw.first raw.lines)

-- a refused record ends the run, unless it goes on
abbrev pub counted : Bool → State → ℕ → Entries → Outcome → State
counted go_on s line d outcomes.Nothing = record { entries = d; accepted = s.accepted; refused = s.refused; ended = false }
counted go_on s line d outcomes.Accepted = record { entries = d; accepted = s.accepted + 1; refused = s.refused; ended = false }
counted go_on s line d (outcomes.Refused why) = record { entries = d; accepted = s.accepted; refused = s.refused ++ (line, why) ∷ []; ended = not go_on }

abbrev pub take_up : Bool → State → ℕ → Entries × Outcome → State
take_up go_on s line o = counted go_on s line o.0 o.1

-- what was read of a record, with its line; after the end nothing changes
unfoldable pub step : Conf → Mode → Bool → State → ℕ × Result Record LdifFaultKind → State
step conf mode go_on s r = if s.ended then s else take_up go_on s r.0 (outcome conf mode s.entries r.1)

-- of records, by what was read of them
unfoldable pub after_records : Conf → Mode → Bool → Entries → List (ℕ × Result Record LdifFaultKind) → State
after_records conf mode go_on d rs = fold (step conf mode go_on) (start d) rs

-- a record's line, and what it reads as
abbrev pub read_as : Mode → RawRecord → ℕ × Result Record LdifFaultKind
read_as mode r = (r.line, reading mode r.first r.lines)

-- of records, one after the other
abbrev pub state_after : Conf → Mode → Bool → Entries → List RawRecord → State
state_after conf mode go_on d given = after_records conf mode go_on d (map (read_as mode) given)

-- of the records of a text
abbrev pub after : Conf → Mode → Bool → Entries → List ℕ → State
after conf mode go_on d text = state_after conf mode go_on d (lines.records text)

-- ---- the dump

abbrev pub record_of : Conf → Entries → Path × EntryContent → ContentRecord
record_of conf d x = record_at conf d x.0 x.1

-- each entry as a content record, in the order of paths, its lines folded to a width
unfoldable pub dump_to : ℕ → Conf → Entries → List ℕ
dump_to width conf d = flat_map (λ x. write_content_to width (record_of conf d x)) (finite.entries d)

-- the same to 76 bytes
abbrev pub dump : Conf → Entries → List ℕ
dump = dump_to standard_width

-- they read as the same content records
abbrev pub ReadAlike : List ℕ → List ℕ → Type 0
ReadAlike text other = map reading_of (readings Content text) ≡ map reading_of (readings Content other)

-- ---- loading

-- content records, from a directory on
abbrev pub loaded_after : Conf → Entries → List RawRecord → State
loaded_after conf d given = state_after conf Content false d given

-- no record is refused, and these are the entries
pub record LoadsRecords (conf : Conf) (old : Entries) (given : List RawRecord) (d : Entries) : Type 0 where
  pub entries : d ≡ (loaded_after conf old given).entries
  pub all : (loaded_after conf old given).refused ≡ []

-- a text of content records, from the directory with no entry
abbrev pub Loads : Conf → List ℕ → Entries → Type 0
Loads conf text d = LoadsRecords conf finite.empty (lines.records text) d

-- the records of a dump leave the entries that were dumped, and none is refused
abbrev pub LoadsBackAt : ℕ → Conf → Entries → Type 0
LoadsBackAt width conf d = Loads conf (dump_to width conf d) d

abbrev pub LoadsBack : Conf → Entries → Type 0
LoadsBack conf d = LoadsBackAt standard_width conf d
