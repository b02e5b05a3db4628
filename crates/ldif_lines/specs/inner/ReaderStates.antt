-- Where a reader stands, and how it goes on.
use Rattle.std.specs.Prelude.{◌≡◌, ◌<◌, ◌+◌, ◌-◌, ◌^◌, ◌⊎◌, ◌∷◌, [], true, false, List, Result, Ok, Err, OnOk}
use Rattle.device.specs.Device.{Seen, GaveSome}
use Rattle.device.specs.declared.source.Source.{Ghosts}
use Rattle.ldif_lines.specs.Records.{RawRecord}
use Rattle.ldif_lines.specs.Reader.{source_of, loan_of, unread, lines_begun}
use Rattle.ldif_lines.specs.inner.Moves.{Moved, Ended, Drained, Broken}
use Rattle.ldif_lines.specs.inner.States.{State, next_state, raw_of, gives}
use Rattle.ldif_lines.specs.inner.View.{state_of}
use Rattle.ldif_lines.specs.declared.draft.RecordDraft.{RecordDraft}
use Rattle.ldif_lines.specs.declared.reader.Reader.{Reader}
use Rattle.ldif_lines.specs.declared.reader.Found.{Found}
use Rattle.ldif_lines.specs.declared.reader.Found.TheVariants.{Closed, Last, Nothing}
use Rattle.ldif_lines.specs.declared.reader.ReadFault.{ReadFault}
use Rattle.ldif_lines.specs.declared.reader.ReadFault.TheVariants as faults

-- the state at which the next record begins
abbrev pub begins : {S : Type 0} {g : Ghosts S} → Reader S RecordDraft g → State
begins r = record (next_state r.count) { first = r.first }

-- the state of the record that it is in
abbrev pub state : {S : Type 0} {g : Ghosts S} → Reader S RecordDraft g → State
state r = state_of r.draft r.after_return r.count

-- It pulled some bytes and took some, which end no record.
abbrev pub Moves : {S : Type 0} {g : Ghosts S} → (S → Seen) → Reader S RecordDraft g → Reader S RecordDraft g → Type 0
Moves seen old new = Moved (seen (source_of old)) (seen (source_of new)) (unread old) (unread new) (state old) (state new)

-- It took bytes up to the end of the block of the record that it is in now.
abbrev pub EndsItsBlock : {S : Type 0} {g : Ghosts S} → (S → Seen) → Reader S RecordDraft g → Reader S RecordDraft g → Type 0
EndsItsBlock seen old new = Ended (seen (source_of old)) (seen (source_of new)) (unread old) (unread new) (state old) (next_state new.count) (raw_of (state new))

-- It took all bytes, to the end of the text, which left these records.
abbrev pub Drains : {S : Type 0} {g : Ghosts S} → (S → Seen) → Reader S RecordDraft g → Reader S RecordDraft g → List RawRecord → Type 0
Drains seen old new rs = Drained (seen (source_of old)) (seen (source_of new)) (unread old) (unread new) (state old) rs

-- It holds bytes, and all of them were pulled just now.
abbrev pub HoldsPulled : {S : Type 0} {g : Ghosts S} → (S → Seen) → Reader S RecordDraft g → Reader S RecordDraft g → Type 0
HoldsPulled seen old new = (new.at < new.end) × ((seen (source_of new)).pulled ≡ (seen (source_of old)).pulled + (new.end - new.at))

-- It pulled nothing.
pub record LeavesSource {S : Type 0} {g : Ghosts S} (old new : Reader S RecordDraft g) : Type 0 where
  pub same_loan : loan_of new ≡ loan_of old
  pub source : source_of new ≡ source_of old
  pub first : new.first ≡ old.first
  pub failed : new.failed ≡ old.failed
  pub at_end : new.at_end ≡ old.at_end

-- It took nothing.
pub record LeavesRecord {S : Type 0} {g : Ghosts S} (old new : Reader S RecordDraft g) : Type 0 where
  pub same_loan : loan_of new ≡ loan_of old
  pub first : new.first ≡ old.first
  pub failed : new.failed ≡ old.failed
  pub same : state new ≡ state old
  pub after_return : new.after_return ≡ old.after_return
  pub count : new.count ≡ old.count

-- It went on, and pulled what it wanted for it.
pub record Searched {S : Type 0} {g : Ghosts S} (seen : S → Seen) (old new : Reader S RecordDraft g) : Type 0 where
  pub same_loan : loan_of new ≡ loan_of old
  pub gave : GaveSome (seen (source_of old)) (seen (source_of new))
  pub failed : new.failed ≡ old.failed
  pub first : new.first ≡ old.first
  pub behind_end : old.at_end ≡ true → source_of new ≡ source_of old
  pub late : (source_of new ≡ source_of old) ⊎ (gives true (state old) (unread old) ≡ [])

-- what it found
pub record TellsEnd {S : Type 0} {g : Ghosts S} (seen : S → Seen) (old new : Reader S RecordDraft g) (found : Result Found ReadFault) : Type 0 where
  pub closed : found ≡ Ok Closed → EndsItsBlock seen old new
  pub last : found ≡ Ok Last → Drains seen old new (raw_of (state new) ∷ [])
  pub nothing : found ≡ Ok Nothing → Drains seen old new [] × (gives false (state new) [] ≡ []) × (lines_begun new ≡ [])
  pub settled : OnOk found (new.after_return ≡ false)
  pub at_end : found ≡ Ok Closed → new.at_end ≡ old.at_end
  pub ended : (found ≡ Ok Last ⊎ found ≡ Ok Nothing) → new.at_end ≡ true
  pub fits : OnOk found ((seen (source_of old)).pulled < (seen (source_of new)).pulled → (seen (source_of new)).pulled < 2 ^ 64)

-- why it found nothing
pub record TellsWhy {S : Type 0} {g : Ghosts S} (seen : S → Seen) (old new : Reader S RecordDraft g) (found : Result Found ReadFault) : Type 0 where
  pub device : found ≡ Err faults.Device → Broken (seen (source_of old)) (seen (source_of new)) (unread old) (state old)
  pub before_end : found ≡ Err faults.Device → old.at_end ≡ false
  pub memory : found ≡ Err faults.OutOfMemory → (seen (source_of new)).failed ≡ (seen (source_of old)).failed
  pub never : found ≡ Err faults.Failed → ⊥
