-- How the edits of the index add up over the records of a run.
use Rattle.std.specs.Prelude.{◌≡◌, ℕ, ◌+◌, ◌*◌, ◌≤◌, Bool, List, [], ◌∷◌, ◌++◌, map, length, Option, Result, Ok, Err, if◌then◌else◌}
use Rattle.ldif_lines.specs.Records.{RawRecord}
use Rattle.ldif.specs.declared.fault.LdifFaultKind.{LdifFaultKind}
use Rattle.ldif.specs.declared.record.Record.{Record}
use Rattle.ldif.specs.declared.record.Mode.{Mode}
use Rattle.schema.specs.Conf.{Conf}
use Rattle.entries.specs.declared.refusal.Refusal.{Refusal}
use Rattle.entries.specs.declared.refusal.Refusal.TheVariants as refusals
use Rattle.tree.specs.Directories.{Entries}
use Rattle.databases.specs.Folds.{Over}
use Rattle.databases.specs.Runs.{State, start, step, read_as, state_after}
use Rattle.databases.specs.declared.runs.Tally.{Tally}
use Rattle.databases.specs.declared.runs.RunFault.{RunFault}
use Rattle.databases.specs.declared.runs.RunFault.TheVariants as faults

-- ---- one record

-- how many edits of an index a record is counted as
abbrev pub CountEdits : Type 0
CountEdits = Conf → Mode → Entries → Record → ℕ

-- the edits didn't fall, and rose by so many at most
pub record RisesUpTo (most edits edits' : ℕ) : Type 0 where
  pub rises : edits ≤ edits'
  pub few : edits' ≤ edits + most

-- They rose by so many. Where memory ran out, those that came by then were taken back, an edit each again.
abbrev pub RiseBy : Result (Unit {0}) Refusal → ℕ → ℕ → ℕ → Type 0
RiseBy (Ok u) count edits edits' = edits' ≡ edits + count
RiseBy (Err (refusals.Code code)) count edits edits' = edits' ≡ edits + count
RiseBy (Err refusals.OutOfMemory) count edits edits' = RisesUpTo (2 * count) edits edits'

-- those of what was read of a record; a fault edits nothing
abbrev pub edits_read : CountEdits → Conf → Mode → Entries → Result Record LdifFaultKind → ℕ
edits_read count conf mode d (Ok r) = count conf mode d r
edits_read count conf mode d (Err fault) = 0

-- ---- the records of a run

-- in a run; none after its end
abbrev pub step_edits : CountEdits → Conf → Mode → State → Result Record LdifFaultKind → ℕ
step_edits count conf mode s r = if s.ended then 0 else edits_read count conf mode s.entries r

-- of records, one after the other, from where the run stands
abbrev pub edits_from : CountEdits → Conf → Mode → Bool → State → List (ℕ × Result Record LdifFaultKind) → ℕ
edits_from count conf mode go_on s [] = 0
edits_from count conf mode go_on s (r ∷ rs) = step_edits count conf mode s r.1 + edits_from count conf mode go_on (step conf mode go_on s r) rs

abbrev pub run_edits : CountEdits → Conf → Mode → Bool → Entries → List RawRecord → ℕ
run_edits count conf mode go_on d given = edits_from count conf mode go_on (start d) (map (read_as mode) given)

-- these records leave these entries, and the edits rise by theirs
pub record Edited (count : CountEdits) (conf : Conf) (mode : Mode) (go_on : Bool) (old new : Entries) (given : List RawRecord) (edits edits' : ℕ) : Type 0 where
  pub entries : new ≡ (state_after conf mode go_on old given).entries
  pub rise : edits' ≡ edits + run_edits count conf mode go_on old given

-- the first ones do, of which so many were accepted and refused
pub record EditedByFirst (count : CountEdits) (conf : Conf) (mode : Mode) (go_on : Bool) (old new : Entries) (given : List RawRecord) (t : Tally) (edits edits' : ℕ) : Type 0 where
  pub front : List RawRecord
  pub others : List RawRecord
  pub parts : given ≡ front ++ others
  pub accepted : t.accepted ≡ (state_after conf mode go_on old front).accepted
  pub refused : t.refused ≡ length (state_after conf mode go_on old front).refused
  pub edited : Edited count conf mode go_on old new front edits edits'

-- of the first of these records, where there is one
abbrev pub next_edits : CountEdits → Conf → Mode → State → List RawRecord → ℕ
next_edits count conf mode s [] = 0
next_edits count conf mode s (r ∷ rs) = step_edits count conf mode s (read_as mode r).1

-- The first ones do, and memory ran out in the next one: the edits that came of it were taken back.
pub record EditedAndTakenBack (count : CountEdits) (conf : Conf) (mode : Mode) (go_on : Bool) (old new : Entries) (given : List RawRecord) (t : Tally) (edits edits' : ℕ) : Type 0 where
  pub front : List RawRecord
  pub others : List RawRecord
  pub parts : given ≡ front ++ others
  pub entries : new ≡ (state_after conf mode go_on old front).entries
  pub accepted : t.accepted ≡ (state_after conf mode go_on old front).accepted
  pub refused : t.refused ≡ length (state_after conf mode go_on old front).refused
  pub rise : RisesUpTo (2 * next_edits count conf mode (state_after conf mode go_on old front) others) (edits + run_edits count conf mode go_on old front) edits'

-- What a run over the records of a source makes of the edits.
abbrev pub EditsRise : CountEdits → Conf → Mode → Bool → Entries → Entries → Option (List RawRecord) → Result Tally RunFault → ℕ → ℕ → Type 0
EditsRise count conf mode go_on old new all (Ok t) edits edits' = Over all (λ given. Edited count conf mode go_on old new given edits edits')
EditsRise count conf mode go_on old new all (Err (faults.Read t)) edits edits' = Over all (λ given. EditedByFirst count conf mode go_on old new given t edits edits')
EditsRise count conf mode go_on old new all (Err (faults.Write t)) edits edits' = Over all (λ given. EditedByFirst count conf mode go_on old new given t edits edits')
EditsRise count conf mode go_on old new all (Err (faults.OutOfMemory t)) edits edits' = Over all (λ given. EditedAndTakenBack count conf mode go_on old new given t edits edits')
