-- Where a run stands between two records.
use Rattle.std.specs.Prelude.{◌≡◌, Bool, false, List, length, Option}
use Rattle.device.specs.Device.{Written, Took}
use Rattle.ldif_lines.specs.Records.{RawRecord}
use Rattle.ldif_lines.specs.Reader.{Takes}
use Rattle.ldif.specs.declared.record.Mode.{Mode}
use Rattle.schema.specs.Conf.{Conf}
use Rattle.tree.specs.Directories.{Entries}
use Rattle.databases.specs.Reports.{report}
use Rattle.databases.specs.declared.runs.Tally.{Tally}
use Rattle.databases.specs.Runs.{state_after}

-- these records were carried out, and the entries and the counts are those that they leave
pub record IsReached (conf : Conf) (mode : Mode) (go_on : Bool) (old now : Entries) (all left : Option (List RawRecord)) (t : Tally) (front : List RawRecord) : Type 0 where
  pub parts : Takes all left front
  pub entries : now ≡ (state_after conf mode go_on old front).entries
  pub accepted : t.accepted ≡ (state_after conf mode go_on old front).accepted
  pub refused : t.refused ≡ length (state_after conf mode go_on old front).refused

-- and this holds of them
pub record Stands (P : List RawRecord → Type 0) (conf : Conf) (mode : Mode) (go_on : Bool) (old now : Entries) (all left : Option (List RawRecord)) (t : Tally) (a b : Written) : Type 0 where
  pub front : List RawRecord
  pub reached : IsReached conf mode go_on old now all left t front
  pub going : (state_after conf mode go_on old front).ended ≡ false
  pub written : Took a b (report (state_after conf mode go_on old front).refused)
  pub so : P front
