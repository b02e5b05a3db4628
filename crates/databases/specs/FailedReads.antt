-- Which records were carried out where the source failed: those that the bytes close which came by then.
use Rattle.std.specs.Prelude.{◌≡◌, ℕ, Bool, List, [], length, ⊤}
use Rattle.device.specs.Device.{Seen, Pulled, Written}
use Rattle.ldif_lines.specs.Records.{RawRecord}
use Rattle.ldif.specs.declared.record.Mode.{Mode}
use Rattle.schema.specs.Conf.{Conf}
use Rattle.tree.specs.Directories.{Entries}
use Rattle.databases.specs.Runs.{State, state_after, loaded_after}
use Rattle.databases.specs.Faults.{WasGoing}
use Rattle.databases.specs.declared.runs.Tally.{Tally}
use Rattle.databases.specs.declared.runs.RunFault.{RunFault}
use Rattle.databases.specs.declared.runs.RunFault.TheVariants as faults

-- the entries, the counts and the report are those of this state, which the run had not ended with
pub record IsLeft (s : State) (new : Entries) (t : Tally) (a b : Written) : Type 0 where
  pub entries : new ≡ s.entries
  pub accepted : t.accepted ≡ s.accepted
  pub refused : t.refused ≡ length s.refused
  pub report : WasGoing s a b

-- a run: `closed` says which records some bytes close
pub record RanUpTo (closed : List ℕ → List RawRecord) (conf : Conf) (mode : Mode) (go_on : Bool) (old new : Entries) (t : Tally) (source source' : Seen) (a b : Written) : Type 0 where
  pub got : List ℕ
  pub pulled : Pulled source source' got
  pub left : IsLeft (state_after conf mode go_on old (closed got)) new t a b

-- nothing is said here of other faults
abbrev pub StopsReading : RunFault → (List ℕ → List RawRecord) → Conf → Mode → Bool → Entries → Entries → Seen → Seen → Written → Written → Type 0
StopsReading (faults.Read t) closed conf mode go_on old new source source' a b = RanUpTo closed conf mode go_on old new t source source' a b
StopsReading (faults.Write t) closed conf mode go_on old new source source' a b = ⊤
StopsReading (faults.OutOfMemory t) closed conf mode go_on old new source source' a b = ⊤

-- a load: none of these records was refused
pub record LoadedUpTo (closed : List ℕ → List RawRecord) (conf : Conf) (old : Entries) (source source' : Seen) : Type 0 where
  pub got : List ℕ
  pub pulled : Pulled source source' got
  pub taken : (loaded_after conf old (closed got)).refused ≡ []
