-- What calls of a reader took, one after the other.
use Rattle.std.specs.Prelude.{◌≡◌, ℕ, false, List, ◌++◌}
use Rattle.device.specs.Device.{Seen, Pulled}
use Rattle.device.specs.declared.source.Source.{Ghosts}
use Rattle.ldif_lines.specs.Records.{RawRecord}
use Rattle.ldif_lines.specs.Reader.{source_of, unread, has_ended}
use Rattle.ldif_lines.specs.Pulls.{closed_in}
use Rattle.ldif_lines.specs.declared.draft.RecordDraft.{RecordDraft}
use Rattle.ldif_lines.specs.declared.reader.Reader.{Reader}

-- They answered these records: those that are closed in what was held and what was pulled, but for what is held now.
pub record TookRecords {S : Type 0} {g : Ghosts S} (seen : S → Seen) (old new : Reader S RecordDraft g) (rs : List RawRecord) : Type 0 where
  pub got : List ℕ
  pub pulled : Pulled (seen (source_of old)) (seen (source_of new)) got
  pub closed : (rest : List ℕ) → closed_in old (unread old ++ (got ++ rest)) ≡ rs ++ closed_in new (unread new ++ rest)

-- the same, as long as the source's end was not met
abbrev pub TookBeforeEnd : {S : Type 0} {g : Ghosts S} → (S → Seen) → Reader S RecordDraft g → Reader S RecordDraft g → List RawRecord → Type 0
TookBeforeEnd seen old new rs = has_ended new ≡ false → TookRecords seen old new rs

-- the records that some bytes close, behind those that are held
abbrev pub closed_with : {S : Type 0} {g : Ghosts S} → Reader S RecordDraft g → List ℕ → List RawRecord
closed_with r bytes = closed_in r (unread r ++ bytes)
