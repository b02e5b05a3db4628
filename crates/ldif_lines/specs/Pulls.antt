-- What a call of a reader takes of its source and of the bytes that it holds.
use Rattle.std.specs.Prelude.{◌≡◌, ℕ, true, false, List, [], ◌∷◌, ◌++◌}
use Rattle.std.specs.Io.KnownBytes.{IsAtEnd}
use Rattle.base.specs.Ascii.{line_feed}
use Rattle.device.specs.Device.{Seen, Pulled}
use Rattle.device.specs.declared.source.Source.{Ghosts}
use Rattle.ldif_lines.specs.Records.{RawRecord, records_from, closed_from}
use Rattle.ldif_lines.specs.Reader.{source_of, unread, next_is_first, next_number, has_ended}
use Rattle.ldif_lines.specs.declared.draft.RecordDraft.{RecordDraft}
use Rattle.ldif_lines.specs.declared.reader.Reader.{Reader}

-- the records whose closing empty line stands in these bytes, which begin where the next record does
abbrev pub closed_in : {S : Type 0} {g : Ghosts S} → Reader S RecordDraft g → List ℕ → List RawRecord
closed_in r bytes = closed_from (next_is_first r) (next_number r) bytes

-- It took the bytes up to the line feed that closes this record's block. Without that one they close no record.
pub record TakesBlock {S : Type 0} {g : Ghosts S} (seen : S → Seen) (old new : Reader S RecordDraft g) (r : RawRecord) : Type 0 where
  pub got : List ℕ
  pub block : List ℕ
  pub pulled : Pulled (seen (source_of old)) (seen (source_of new)) got
  pub bytes : unread old ++ got ≡ block ++ line_feed ∷ unread new
  pub before : closed_in old block ≡ []
  pub same_end : has_ended new ≡ has_ended old
  pub closed : (rest : List ℕ) → closed_in old (block ++ line_feed ∷ rest) ≡ r ∷ closed_in new rest

-- It took all bytes, up to the end of the source. They close no record, and these records are left of them: one or none.
pub record TakesRest {S : Type 0} {g : Ghosts S} (seen : S → Seen) (old new : Reader S RecordDraft g) (rs : List RawRecord) : Type 0 where
  pub got : List ℕ
  pub pulled : Pulled (seen (source_of old)) (seen (source_of new)) got
  pub at_end : IsAtEnd (seen (source_of new)).left
  pub ended : has_ended new ≡ true
  pub none : unread new ≡ []
  pub closed : closed_in old (unread old ++ got) ≡ []
  pub are : records_from (next_is_first old) (next_number old) (unread old ++ got) ≡ rs

-- The source failed before its end. What it gave by then closes no record, with what was held.
pub record Breaks {S : Type 0} {g : Ghosts S} (seen : S → Seen) (old new : Reader S RecordDraft g) : Type 0 where
  pub got : List ℕ
  pub pulled : Pulled (seen (source_of old)) (seen (source_of new)) got
  pub before_end : has_ended old ≡ false
  pub closed : closed_in old (unread old ++ got) ≡ []
