-- Content records whose parents aren't there, and what became of those of the parents (RFC 4511, 4.7).
use Rattle.std.specs.Prelude.{◌≡◌, Bool, false, List, ◌∷◌, ◌++◌, Some, Ok, ℕ}
use Rattle.std.specs.FinMap as finite
use Rattle.ldif_lines.specs.Records.{RawRecord}
use Rattle.ldif.specs.Attrs.{Attr}
use Rattle.ldif.specs.Reading.{reading}
use Rattle.ldif.specs.declared.record.Mode.TheVariants.{Content}
use Rattle.ldif.specs.declared.record.Record.TheVariants as records
use Rattle.paths.specs.Paths.{Path, parent_of, is_root}
use Rattle.schema.specs.declared.code.Code.TheVariants.{NoSuchObject}
use Rattle.schema.specs.Conf.{Conf}
use Rattle.tree.specs.Directories.{Entries}
use Rattle.tree.specs.Operations.{record_path}
use Rattle.databases.specs.Runs.{outcome, state_after}
use Rattle.databases.specs.declared.refusal.Outcome.{Outcome}
use Rattle.databases.specs.declared.refusal.Outcome.TheVariants as outcomes
use Rattle.databases.specs.declared.refusal.RecordRefusal.{RecordRefusal}
use Rattle.databases.specs.declared.refusal.RecordRefusal.TheVariants as refusals

-- it reads as a content record, and the configuration finds its entry at this path
pub record IsRecordAt (conf : Conf) (r : RawRecord) (p : Path) : Type 0 where
  pub dn : List ℕ
  pub attrs : List Attr
  pub reads : reading Content r.first r.lines ≡ Ok (records.Content dn attrs)
  pub path : record_path conf (records.Content dn attrs) ≡ Some p

-- neither its entry is there nor the parent of that; and the entry is none that may come without, as the suffix's
pub record IsOrphan (conf : Conf) (d : Entries) (r : RawRecord) (p : Path) : Type 0 where
  pub at : IsRecordAt conf r p
  pub new : finite.contains_key d p ≡ false
  pub below_root : is_root p ≡ false
  pub missing : finite.contains_key d (parent_of p) ≡ false

-- what comes of a record that is loaded
abbrev pub outcome_in : Conf → Entries → RawRecord → Entries × Outcome
outcome_in conf d r = outcome conf Content d (reading Content r.first r.lines)

-- it changes nothing, and is refused with 32
abbrev pub refused_orphan : Entries → Entries × Outcome
refused_orphan d = (d, outcomes.Refused (refusals.Code NoSuchObject))

-- a record with these before it was among those carried out, and was refused in its turn
pub record WasRefused (conf : Conf) (go_on : Bool) (d : Entries) (given front : List RawRecord) (q : RawRecord) : Type 0 where
  pub more : List RawRecord
  pub stands : given ≡ front ++ q ∷ more
  pub turn : (state_after conf Content go_on d front).ended ≡ false
  pub why : RecordRefusal
  pub refused : (outcome_in conf (state_after conf Content go_on d front).entries q).1 ≡ outcomes.Refused why
