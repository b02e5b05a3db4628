-- How the edits of the index rise by one record of a run.
use Rattle.std.specs.Prelude.{◌≡◌, ℕ, ◌+◌, Bool, List}
use Rattle.device.specs.Device.{Seen}
use Rattle.device.specs.declared.source.Source.{Ghosts}
use Rattle.ldif_lines.specs.Records.{RawRecord}
use Rattle.ldif_lines.specs.declared.draft.RecordDraft.{RecordDraft}
use Rattle.ldif_lines.specs.declared.reader.Reader.{Reader}
use Rattle.ldif.specs.declared.record.Mode.{Mode}
use Rattle.schema.specs.Conf.{Conf}
use Rattle.tree.specs.Directories.{Entries}
use Rattle.databases.specs.RunEdits.{CountEdits, run_edits}
use Rattle.databases.specs.inner.Pulls.{TookBeforeEnd}

-- the reader took these records, and the edits rose by theirs
abbrev pub TookAndEdited : {S : Type 0} {g : Ghosts S} → (S → Seen) → Reader S RecordDraft g → Reader S RecordDraft g → CountEdits → Conf → Mode → Bool → Entries → ℕ → ℕ → List RawRecord → Type 0
TookAndEdited seen r r' count conf mode go_on old edits edits' front = TookBeforeEnd seen r r' front × (edits' ≡ edits + run_edits count conf mode go_on old front)
