-- What a call of `next` comes to.
use Rattle.std.specs.Prelude.{◌≡◌, ◌<◌, ◌≤◌, ◌+◌, ◌∷◌, ◌↔◌, ◌⊎◌, [], true, false, length, Option, None, Result, Ok, Err, IfOk, IfSome, OnOk, OnErr}
use Rattle.device.specs.Device.{Seen, GaveSome}
use Rattle.device.specs.declared.source.Source.{Ghosts}
use Rattle.ldif_lines.specs.Reader.{Takes, IsEnd, source_of, loan_of, is_failed, has_ended, unread, lines_begun, records_left, bytes_left}
use Rattle.ldif_lines.specs.Pulls.{closed_in, TakesBlock, TakesRest, Breaks}
use Rattle.ldif_lines.specs.View.{view}
use Rattle.ldif_lines.specs.declared.raw_record.RawRecord.{RawRecord}
use Rattle.ldif_lines.specs.declared.draft.RecordDraft.{RecordDraft}
use Rattle.ldif_lines.specs.declared.reader.Reader.{Reader}
use Rattle.ldif_lines.specs.declared.reader.ReadFault.{ReadFault}
use Rattle.ldif_lines.specs.declared.reader.ReadFault.TheVariants as faults

-- how each call treats its source
pub record KeepsToSource {S : Type 0} {g : Ghosts S} (seen : S → Seen) (old new : Reader S RecordDraft g) : Type 0 where
  pub same_loan : loan_of new ≡ loan_of old
  pub gave : GaveSome (seen (source_of old)) (seen (source_of new))
  pub piece : length (unread new) ≤ 8192  -- it holds a piece at most
  pub behind_end : has_ended old ≡ true → source_of new ≡ source_of old
  pub left_alone : (source_of new ≡ source_of old) ⊎ (closed_in old (unread old) ≡ [])  -- it pulls nothing where the bytes that it holds close a record

-- what its answer says of the records, and of the bytes that were pulled for it
pub record TellsRecord {S : Type 0} {g : Ghosts S} (seen : S → Seen) (old new : Reader S RecordDraft g) (answer : Result (Option RawRecord) ReadFault) : Type 0 where
  pub gives : IfOk answer (λ o. IfSome o (λ r. Takes (records_left seen old) (records_left seen new) (view r ∷ [])))
  pub end : answer ≡ Ok None → IsEnd (records_left seen old) × IsEnd (records_left seen new)
  pub falls : IfOk answer (λ o. IfSome o (λ _. bytes_left seen new < bytes_left seen old))
  pub more : IfOk answer (λ o. IfSome o (λ _. 0 < bytes_left seen new))
  pub took : IfOk answer (λ o. IfSome o (λ r. TakesBlock seen old new (view r) ⊎ TakesRest seen old new (view r ∷ [])))  -- up to the record's end, and at most a piece beyond it
  pub rest : answer ≡ Ok None → TakesRest seen old new []
  pub going : OnOk answer ((seen (source_of new)).failed ≡ (seen (source_of old)).failed)
  pub still_good : OnOk answer (is_failed new ≡ false)
  pub begun : OnOk answer (lines_begun new ≡ [])

-- what its fault means
pub record TellsFault {S : Type 0} {g : Ghosts S} (seen : S → Seen) (old new : Reader S RecordDraft g) (answer : Result (Option RawRecord) ReadFault) : Type 0 where
  pub device : answer ≡ Err faults.Device → (seen (source_of new)).failed ≡ (seen (source_of old)).failed + 1
  pub breaks : answer ≡ Err faults.Device → Breaks seen old new
  pub memory : answer ≡ Err faults.OutOfMemory → (seen (source_of new)).failed ≡ (seen (source_of old)).failed
  pub failed : (answer ≡ Err faults.Failed) ↔ (is_failed old ≡ true)
  pub untouched : answer ≡ Err faults.Failed → source_of new ≡ source_of old
  pub for_good : OnErr answer (is_failed new ≡ true)
