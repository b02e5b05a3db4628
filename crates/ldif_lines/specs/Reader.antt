-- What a reader still has to give.
use Rattle.std.specs.Prelude.{◌≡◌, ℕ, ◌+◌, ◌-◌, ◌^◌, Bool, List, [], ◌++◌, length, take, drop, ⊤, Option, Some, None, option_map}
use Rattle.device.specs.Device.{Seen}
use Rattle.device.specs.declared.source.Source.{Ghosts}
use Rattle.ldif_lines.specs.Records.{RawRecord, records_from}
use Rattle.ldif_lines.specs.declared.draft.RecordDraft.{RecordDraft}
use Rattle.ldif_lines.specs.declared.reader.Reader.{Reader}

-- the items that are known begin with these, and lose them; nothing is said of items that are not known
abbrev pub Takes : {A : Type 0} → Option (List A) → Option (List A) → List A → Type 0
Takes None new xs = ⊤
Takes (Some all) None xs = ⊥
Takes (Some all) (Some more) xs = all ≡ xs ++ more

-- no item is left, as far as the items are known
abbrev pub IsEnd : {A : Type 0} → Option (List A) → Type 0
IsEnd None = ⊤
IsEnd (Some all) = all ≡ []

abbrev pub source_of : {S : Type 0} {g : Ghosts S} → Reader S RecordDraft g → S
source_of r = r.source.now

-- the name of the loan of the source: by it a caller knows the source again when the reader is dropped
abbrev pub loan_of : {S : Type 0} {g : Ghosts S} → Reader S RecordDraft g → ℕ
loan_of r = r.source.ghost_name

abbrev pub is_failed : {S : Type 0} {g : Ghosts S} → Reader S RecordDraft g → Bool
is_failed r = r.failed

-- whether the source's end was met: then nothing is pulled any more
abbrev pub has_ended : {S : Type 0} {g : Ghosts S} → Reader S RecordDraft g → Bool
has_ended r = r.at_end

-- the bytes that were pulled and that no record has taken
abbrev pub unread : {S : Type 0} {g : Ghosts S} → Reader S RecordDraft g → List ℕ
unread r = take (r.end - r.at) (drop r.at r.piece)

-- the lines of the record that it is in
abbrev pub lines_begun : {S : Type 0} {g : Ghosts S} → Reader S RecordDraft g → List (List ℕ)
lines_begun r = r.draft.record.lines

-- whether the next record is the text's first, and the number of the line at which its block begins
abbrev pub next_is_first : {S : Type 0} {g : Ghosts S} → Reader S RecordDraft g → Bool
next_is_first r = r.first

abbrev pub next_number : {S : Type 0} {g : Ghosts S} → Reader S RecordDraft g → ℕ
next_number r = r.count + 1

-- Both stand at the same place of their text: the same line, the same bytes held, and the end met or not.
abbrev pub AtSamePlace : {S : Type 0} {g : Ghosts S} → Reader S RecordDraft g → Reader S RecordDraft g → Type 0
AtSamePlace r s = (next_number r ≡ next_number s) × (next_is_first r ≡ next_is_first s) × (unread r ≡ unread s) × (has_ended r ≡ has_ended s)

-- the records that are still to come, where the bytes of the source are known
unfoldable pub records_left : {S : Type 0} {g : Ghosts S} → (S → Seen) → Reader S RecordDraft g → Option (List RawRecord)
records_left seen r = option_map (λ bytes. records_from r.first (r.count + 1) (unread r ++ bytes)) (seen r.source.now).left

-- how many bytes can still be pulled, and how many are held: each record takes some, and one is always left
unfoldable pub bytes_left : {S : Type 0} {g : Ghosts S} → (S → Seen) → Reader S RecordDraft g → ℕ
bytes_left seen r = (2 ^ 64 - (seen r.source.now).pulled) + length (unread r)
