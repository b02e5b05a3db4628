-- What the records of a source leave of a directory, whether contracts know its bytes or not.
use Rattle.std.specs.Prelude.{◌≡◌, Bool, List, ◌++◌, length, Option, Result, Ok, Err, IfSome}
use Rattle.device.specs.Device.{Written, Took}
use Rattle.ldif_lines.specs.Records.{RawRecord}
use Rattle.ldif.specs.declared.record.Mode.{Mode}
use Rattle.schema.specs.Conf.{Conf}
use Rattle.tree.specs.Directories.{Entries}
use Rattle.databases.specs.Runs.{state_after}
use Rattle.databases.specs.Reports.{report}
use Rattle.databases.specs.Faults.{WrittenAt, tally_of}
use Rattle.databases.specs.declared.runs.Tally.{Tally}
use Rattle.databases.specs.declared.runs.RunFault.{RunFault}

-- This holds of the records of a source: of those that it has, where they are known, and else of some list of records.
pub record Over (all : Option (List RawRecord)) (P : List RawRecord → Type 0) : Type 0 where
  pub given : List RawRecord
  pub are : IfSome all (λ rs. given ≡ rs)
  pub so : P given

-- a run that went through: the entries, the counts and the report are those of the records
pub record Ran (conf : Conf) (mode : Mode) (go_on : Bool) (old new : Entries) (given : List RawRecord) (t : Tally) (a b : Written) : Type 0 where
  pub entries : new ≡ (state_after conf mode go_on old given).entries
  pub accepted : t.accepted ≡ (state_after conf mode go_on old given).accepted
  pub refused : t.refused ≡ length (state_after conf mode go_on old given).refused
  pub written : Took a b (report (state_after conf mode go_on old given).refused)

-- a run that was broken off: they are those of the first records
pub record BrokeOff (conf : Conf) (mode : Mode) (go_on : Bool) (old new : Entries) (given : List RawRecord) (f : RunFault) (a b : Written) : Type 0 where
  pub front : List RawRecord
  pub others : List RawRecord
  pub parts : given ≡ front ++ others
  pub entries : new ≡ (state_after conf mode go_on old front).entries
  pub accepted : (tally_of f).accepted ≡ (state_after conf mode go_on old front).accepted
  pub refused : (tally_of f).refused ≡ length (state_after conf mode go_on old front).refused
  pub written : WrittenAt f (state_after conf mode go_on old) front a b

-- what a run over the records of a source answers and leaves
abbrev pub Runs : Conf → Mode → Bool → Entries → Entries → Option (List RawRecord) → Result Tally RunFault → Written → Written → Type 0
Runs conf mode go_on old new all (Ok t) a b = Over all (λ given. Ran conf mode go_on old new given t a b)
Runs conf mode go_on old new all (Err f) a b = Over all (λ given. BrokeOff conf mode go_on old new given f a b)
