-- One record of a run: what it does to the counts and to the report.
use Rattle.std.specs.Prelude.{◌≡◌, ℕ, ◌+◌, ◌⊎◌, Bool, false, not, List, [], Result, Ok, Err, if◌then◌else◌}
use Rattle.device.specs.Device.{Written, Took, Broke}
use Rattle.ldif_lines.specs.declared.reader.ReadFault.{ReadFault}
use Rattle.ldif_lines.specs.declared.reader.ReadFault.TheVariants as reads
use Rattle.tree.specs.Directories.{Entries}
use Rattle.databases.specs.Reports.{report_line}
use Rattle.databases.specs.declared.refusal.RecordRefusal.{RecordRefusal}
use Rattle.databases.specs.declared.refusal.Outcome.{Outcome}
use Rattle.databases.specs.declared.refusal.Outcome.TheVariants.{Nothing, Accepted, Refused}
use Rattle.databases.specs.declared.refusal.RefusedRecord.{RefusedRecord}
use Rattle.databases.specs.declared.runs.Progress.{Progress}
use Rattle.databases.specs.declared.runs.Progress.TheVariants.{GoesOn, StoppedBy}
use Rattle.databases.specs.declared.runs.Tally.{Tally}
use Rattle.databases.specs.declared.runs.RunFault.{RunFault}
use Rattle.databases.specs.declared.runs.RunFault.TheVariants as faults

abbrev pub counts_after : Outcome → Tally → Tally
counts_after Nothing t = t
counts_after Accepted t = record { accepted = t.accepted + 1; refused = t.refused }
counts_after (Refused why) t = record { accepted = t.accepted; refused = t.refused + 1 }

-- what is reported
abbrev pub reported : ℕ → Outcome → List ℕ
reported line Nothing = []
reported line Accepted = []
reported line (Refused why) = report_line (line, why)

abbrev pub ends : Bool → Outcome → Bool
ends go_on Nothing = false
ends go_on Accepted = false
ends go_on (Refused why) = not go_on

-- the record was carried out, counted and reported
pub record IsTaken (o : Entries × Outcome) (go_on : Bool) (line : ℕ) (new : Entries) (t t' : Tally) (a b : Written) (ended : Bool) : Type 0 where
  pub entries : new ≡ o.0
  pub counts : t' ≡ counts_after o.1 t
  pub written : Took a b (reported line o.1)
  pub ended_is : ended ≡ ends go_on o.1

-- it was refused and counted, and its report line was broken off
pub record IsCounted (o : Entries × Outcome) (new : Entries) (t t' : Tally) (why : RecordRefusal) : Type 0 where
  pub is : o.1 ≡ Refused why
  pub entries : new ≡ o.0
  pub counts : t' ≡ counts_after o.1 t

-- nothing was done
pub record IsUntouched (old new : Entries) (t t' : Tally) (a b : Written) : Type 0 where
  pub entries : new ≡ old
  pub counts : t' ≡ t
  pub written : b ≡ a

abbrev pub IsBrokenOff : Entries × Outcome → ℕ → Entries → Entries → Tally → Written → Written → RunFault → Type 0
IsBrokenOff o line old new t a b (faults.Read t') = ⊥
IsBrokenOff o line old new t a b (faults.Write t') = (why : RecordRefusal) × IsCounted o new t t' why × Broke a b (report_line (line, why))
IsBrokenOff o line old new t a b (faults.OutOfMemory t') = IsUntouched old new t t' a b ⊎ ((why : RecordRefusal) × IsCounted o new t t' why × (b ≡ a))

-- how a run goes on behind a record that it refused
abbrev pub progress_behind : Bool → RefusedRecord → Progress
progress_behind go_on r = if go_on then GoesOn else StoppedBy r

-- how it goes on behind what became of the record on a line
abbrev pub progress_after : Bool → ℕ → Outcome → Progress
progress_after go_on line Nothing = GoesOn
progress_after go_on line Accepted = GoesOn
progress_after go_on line (Refused why) = progress_behind go_on (record { line = line; refusal = why })

abbrev pub line_of : RefusedRecord → List ℕ
line_of r = report_line (r.line, r.refusal)

-- the report line of a refused record was written, or broken off
abbrev pub Reports : RefusedRecord → Bool → Tally → Written → Written → Result Progress RunFault → Type 0
Reports r go_on t a b (Ok progress) = Took a b (line_of r) × (progress ≡ progress_behind go_on r)
Reports r go_on t a b (Err (faults.Read u)) = ⊥
Reports r go_on t a b (Err (faults.Write u)) = (u ≡ t) × Broke a b (line_of r)
Reports r go_on t a b (Err (faults.OutOfMemory u)) = (u ≡ t) × (b ≡ a)

-- an outcome was counted, and its report was written, or broken off
abbrev pub Counts : Outcome → Bool → ℕ → Tally → Tally → Written → Written → Result Progress RunFault → Type 0
Counts o go_on line t t' a b (Ok progress) = (t' ≡ counts_after o t) × Took a b (reported line o) × (progress ≡ progress_after go_on line o)
Counts o go_on line t t' a b (Err (faults.Read u)) = ⊥
Counts o go_on line t t' a b (Err (faults.Write u)) = (why : RecordRefusal) × (o ≡ Refused why) × (u ≡ counts_after o t) × Broke a b (report_line (line, why))
Counts o go_on line t t' a b (Err (faults.OutOfMemory u)) = (why : RecordRefusal) × (o ≡ Refused why) × (u ≡ counts_after o t) × (b ≡ a)

-- a source that failed, and want of memory
abbrev pub run_fault_of : ReadFault → Tally → RunFault
run_fault_of reads.Device t = faults.Read t
run_fault_of reads.OutOfMemory t = faults.OutOfMemory t
run_fault_of reads.Failed t = faults.OutOfMemory t
