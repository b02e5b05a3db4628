-- What a draft of a record becomes.
use Rattle.std.specs.Prelude.{◌≡◌, ℕ, ◌+◌, Bool, false, List, [], ◌∷◌}
use Rattle.base.specs.Ascii.{line_feed}
use Rattle.ldif_lines.specs.inner.Moves.{GoesOn, EndsRecord}
use Rattle.ldif_lines.specs.inner.States.{put, gives, raw_of}
use Rattle.ldif_lines.specs.inner.View.{state_of}
use Rattle.ldif_lines.specs.declared.draft.RecordDraft.{RecordDraft}

-- It has these bytes more, of the line of this number.
abbrev pub HasMore : RecordDraft → RecordDraft → ℕ → List ℕ → Type 0
HasMore old new number bytes = (after_return : Bool) (count : ℕ) → number ≡ count + 1 → state_of new after_return count ≡ put (state_of old after_return count) bytes

-- The end of a line doesn't end its record.
abbrev pub GoesOnBehindLine : RecordDraft → RecordDraft → Type 0
GoesOnBehindLine old new = (after_return : Bool) (count : ℕ) → GoesOn (state_of old after_return count) (line_feed ∷ []) (state_of new false (count + 1))

-- The end of a line ends its record.
abbrev pub EndsWithLine : RecordDraft → RecordDraft → Type 0
EndsWithLine old new = (after_return : Bool) (count : ℕ) → EndsRecord (state_of old after_return count) (line_feed ∷ []) (state_of new false (count + 1))

-- At the end of the text no record is left.
abbrev pub EndsWithNone : RecordDraft → RecordDraft → Bool → ℕ → Type 0
EndsWithNone old new after_return count = (gives false (state_of old after_return count) [] ≡ []) × (gives false (state_of new false count) [] ≡ [])

-- At the end of the text one record is left, which it is now.
abbrev pub EndsWithOne : RecordDraft → RecordDraft → Bool → ℕ → Type 0
EndsWithOne old new after_return count = gives false (state_of old after_return count) [] ≡ raw_of (state_of new false count) ∷ []
