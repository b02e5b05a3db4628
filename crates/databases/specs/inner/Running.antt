-- Where a run stands, what its next record comes to, and what it comes to in the end.
use Rattle.std.specs.Prelude.{◌≡◌, ℕ, ◌+◌, ◌<◌, ◌≤◌, ◌^◌, Bool, false, Option, Some, None, Result, Ok, Err, IfErr}
use Rattle.device.specs.Device.{Seen, Written, GaveSome}
use Rattle.device.specs.declared.source.Source.{Ghosts}
use Rattle.ldif_lines.specs.Reader.{source_of, loan_of, is_failed, records_left, bytes_left}
use Rattle.ldif_lines.specs.declared.draft.RecordDraft.{RecordDraft}
use Rattle.ldif_lines.specs.declared.reader.Reader.{Reader}
use Rattle.ldif.specs.declared.record.Mode.{Mode}
use Rattle.schema.specs.Conf.{Conf}
use Rattle.tree.specs.Directories.{Entries}
use Rattle.databases.specs.Faults.{Failures}
use Rattle.databases.specs.FailedReads.{StopsReading}
use Rattle.databases.specs.Folds.{Runs}
use Rattle.databases.specs.RunEdits.{CountEdits, EditsRise}
use Rattle.databases.specs.declared.refusal.RefusedRecord.{RefusedRecord}
use Rattle.databases.specs.declared.runs.Progress.{Progress}
use Rattle.databases.specs.declared.runs.Progress.TheVariants.{GoesOn, AtEnd, StoppedBy}
use Rattle.databases.specs.declared.runs.Tally.{Tally}
use Rattle.databases.specs.declared.runs.RunFault.{RunFault}
use Rattle.databases.specs.inner.Endings.{IsEndedBy}
use Rattle.databases.specs.inner.Pulls.{closed_with}
use Rattle.databases.specs.inner.RecordEdits.{TookAndEdited}
use Rattle.databases.specs.inner.Stands.{Stands}

-- where a run stands: the configuration, the entries and the edits of its target, its reader, and what was written of its report
pub record Standing (S : Type 0) (g : Ghosts S) : Type 0 where
  pub conf : Conf
  pub reader : Reader S RecordDraft g
  pub entries : Entries
  pub edits : ℕ
  pub written : Written

abbrev pub standing : {T S W : Type 0} {g : Ghosts S} → (T → Conf) → (T → Entries) → (T → ℕ) → (W → Written) → T → Reader S RecordDraft g → W → Standing S g
standing conf entries edits written target reader sink =
    record { conf = conf target; reader = reader; entries = entries target; edits = edits target; written = written sink }

module _ {S : Type 0} {g : Ghosts S} (seen : S → Seen) (count : CountEdits) (mode : Mode) (go_on : Bool) where
  -- it began there, and now stands here and goes on
  pub record IsRunning (a b : Standing S g) (t : Tally) : Type 0 where
    pub same_conf : b.conf ≡ a.conf
    pub same_loan : loan_of b.reader ≡ loan_of a.reader
    pub going : is_failed b.reader ≡ false
    pub failed : (seen (source_of b.reader)).failed ≡ (seen (source_of a.reader)).failed
    pub gave : GaveSome (seen (source_of a.reader)) (seen (source_of b.reader))
    pub few : t.accepted + t.refused + bytes_left seen b.reader ≤ 2 ^ 64
    pub stands : Stands (TookAndEdited seen a.reader b.reader count a.conf mode go_on a.entries a.edits b.edits) a.conf mode go_on a.entries b.entries
        (records_left seen a.reader) (records_left seen b.reader) t a.written b.written

  -- it began there, and has ended here
  pub record HasRun (a b : Standing S g) (result : Result Tally RunFault) : Type 0 where
    pub same_conf : b.conf ≡ a.conf
    pub same_loan : loan_of b.reader ≡ loan_of a.reader
    pub runs : Runs a.conf mode go_on a.entries b.entries (records_left seen a.reader) result a.written b.written
    pub edits : EditsRise count a.conf mode go_on a.entries b.entries (records_left seen a.reader) result a.edits b.edits
    pub read : IfErr result (λ f. StopsReading f (closed_with a.reader) a.conf mode go_on a.entries b.entries (seen (source_of a.reader)) (seen (source_of b.reader)) a.written b.written)
    pub failures : Failures result (seen (source_of a.reader)).failed (seen (source_of b.reader)).failed a.written.failed b.written.failed
    pub gave : GaveSome (seen (source_of a.reader)) (seen (source_of b.reader))

  -- it has ended, by this record or by none
  abbrev pub HasRunTo : Standing S g → Standing S g → Tally → Option RefusedRecord → Type 0
  HasRunTo a b t by = HasRun a b (Ok t) × IsEndedBy a.conf mode go_on a.entries (records_left seen a.reader) t by

  -- by how it goes on; as long as it does, fewer bytes are left than these
  abbrev pub Reaches : ℕ → Standing S g → Standing S g → Tally → Result Progress RunFault → Type 0
  Reaches bytes a b t (Ok GoesOn) = IsRunning a b t × (bytes_left seen b.reader < bytes)
  Reaches bytes a b t (Ok AtEnd) = HasRunTo a b t None
  Reaches bytes a b t (Ok (StoppedBy x)) = HasRunTo a b t (Some x)
  Reaches bytes a b t (Err f) = HasRun a b (Err f)

  -- what one record comes to, wherever the run began
  abbrev pub TakesStep : Standing S g → Tally → Standing S g → Tally → Result Progress RunFault → Type 0
  TakesStep old t new t' result = (a : Standing S g) → IsRunning a old t → Reaches (bytes_left seen old.reader) a new t' result
