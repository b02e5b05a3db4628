-- What a run that is broken off has written, and how often devices failed.
use Rattle.std.specs.Prelude.{◌≡◌, ℕ, ◌+◌, ◌⊎◌, false, List, [], ◌∷◌, ◌++◌, Result, Ok, Err}
use Rattle.device.specs.Device.{Written, Took, Broke}
use Rattle.ldif_lines.specs.Records.{RawRecord}
use Rattle.databases.specs.Reports.{report, report_line}
use Rattle.databases.specs.Runs.{State}
use Rattle.databases.specs.declared.refusal.RecordRefusal.{RecordRefusal}
use Rattle.databases.specs.declared.runs.Tally.{Tally}
use Rattle.databases.specs.declared.runs.RunFault.{RunFault}
use Rattle.databases.specs.declared.runs.RunFault.TheVariants as faults

-- the run had not ended, and all of the report was written
pub record WasGoing (s : State) (a b : Written) : Type 0 where
  pub going : s.ended ≡ false
  pub written : Took a b (report s.refused)

-- The last record was refused, by this refusal on this line; the run was going before it, and the report of those before it was written.
-- `at` says where the run stands behind some records.
pub record LastRefused (at : List RawRecord → State) (front : List RawRecord) (a mid : Written) (why : ℕ × RecordRefusal) : Type 0 where
  pub earlier : List RawRecord
  pub last : RawRecord
  pub are : front ≡ earlier ++ last ∷ []
  pub refused : (at front).refused ≡ (at earlier).refused ++ why ∷ []
  pub before : WasGoing (at earlier) a mid

-- the sink failed in the last report line, of which a beginning was written
pub record BrokeInLast (at : List RawRecord → State) (front : List RawRecord) (a b : Written) : Type 0 where
  pub why : ℕ × RecordRefusal
  pub mid : Written
  pub last : LastRefused at front a mid why
  pub broke : Broke mid b (report_line why)

-- the last report line was wanting memory, and nothing of it was written
pub record WantedInLast (at : List RawRecord → State) (front : List RawRecord) (a b : Written) : Type 0 where
  pub why : ℕ × RecordRefusal
  pub last : LastRefused at front a b why

-- where the run stood, and what was written of the report
abbrev pub WrittenAt : RunFault → (List RawRecord → State) → List RawRecord → Written → Written → Type 0
WrittenAt (faults.Read t) at front a b = WasGoing (at front) a b
WrittenAt (faults.Write t) at front a b = BrokeInLast at front a b
WrittenAt (faults.OutOfMemory t) at front a b = WasGoing (at front) a b ⊎ WantedInLast at front a b

abbrev pub tally_of : RunFault → Tally
tally_of (faults.Read t) = t
tally_of (faults.Write t) = t
tally_of (faults.OutOfMemory t) = t

-- how often the source and the sink failed: where a device is named, that one once, and else neither
abbrev pub Failures : Result Tally RunFault → ℕ → ℕ → ℕ → ℕ → Type 0
Failures (Ok t) s s' w w' = (s' ≡ s) × (w' ≡ w)
Failures (Err (faults.Read t)) s s' w w' = (s' ≡ s + 1) × (w' ≡ w)
Failures (Err (faults.Write t)) s s' w w' = (s' ≡ s) × (w' ≡ w + 1)
Failures (Err (faults.OutOfMemory t)) s s' w w' = (s' ≡ s) × (w' ≡ w)
