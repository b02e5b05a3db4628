-- How a reader goes on.
use Rattle.std.specs.Prelude.{◌≡◌, ℕ, ◌+◌, Bool, true, false, List, [], ◌∷◌, ◌++◌, ◌⊎◌}
use Rattle.std.specs.Io.KnownBytes.{IsAtEnd}
use Rattle.base.specs.Ascii.{line_feed}
use Rattle.device.specs.Device.{Seen, Pulled}
use Rattle.ldif_lines.specs.Records.{RawRecord}
use Rattle.ldif_lines.specs.inner.States.{State, gives, raw_of, next_state}

-- These bytes were taken: what follows them gives the same.
abbrev pub GoesOn : State → List ℕ → State → Type 0
GoesOn s text t = (only : Bool) (rest : List ℕ) → gives only s (text ++ rest) ≡ gives only t rest

-- These bytes end the record that is read: what follows them gives this record, and then those after it.
abbrev pub EndsRecord : State → List ℕ → State → Type 0
EndsRecord s text t = (only : Bool) (rest : List ℕ) → gives only s (text ++ rest) ≡ raw_of t ∷ gives only (next_state t.count) rest

-- A reader pulled some bytes and took some: what it holds unread, and the state of its record.
pub record Moved (a b : Seen) (unread left : List ℕ) (s t : State) : Type 0 where
  pub got : List ℕ
  pub eaten : List ℕ
  pub pulled : Pulled a b got
  pub failed : b.failed ≡ a.failed
  pub bytes : unread ++ got ≡ eaten ++ left
  pub same : GoesOn s eaten t

-- These bytes end with a record's block: before the last of them no record was closed, and with it this one is.
pub record EndsAt (s : State) (text : List ℕ) (r : RawRecord) (t : State) : Type 0 where
  pub eaten : List ℕ
  pub bytes : text ≡ eaten ++ line_feed ∷ []
  pub before : gives true s eaten ≡ []
  pub ends : (only : Bool) (rest : List ℕ) → gives only s (text ++ rest) ≡ r ∷ gives only t rest

-- The same, where the record is the one that this state is in.
abbrev pub EndsBlock : State → List ℕ → State → Type 0
EndsBlock s text t = EndsAt s text (raw_of t) (next_state t.count)

-- It took bytes up to the end of a record's block.
pub record Ended (a b : Seen) (unread left : List ℕ) (s t : State) (r : RawRecord) : Type 0 where
  pub got : List ℕ
  pub block : List ℕ
  pub pulled : Pulled a b got
  pub failed : b.failed ≡ a.failed
  pub bytes : unread ++ got ≡ block ++ left
  pub ends : EndsAt s block r t

-- It took all bytes, to the end of the text, which closed no record and left these.
pub record Drained (a b : Seen) (unread left : List ℕ) (s : State) (rs : List RawRecord) : Type 0 where
  pub got : List ℕ
  pub pulled : Pulled a b got
  pub at_end : IsAtEnd b.left
  pub failed : b.failed ≡ a.failed
  pub none : left ≡ []
  pub closed : gives true s (unread ++ got) ≡ []
  pub rest : gives false s (unread ++ got) ≡ rs

-- A pull failed, before which some bytes were pulled that closed no record.
pub record Broken (a b : Seen) (unread : List ℕ) (s : State) : Type 0 where
  pub got : List ℕ
  pub pulled : Pulled a b got
  pub failed : b.failed ≡ a.failed + 1
  pub closed : gives true s (unread ++ got) ≡ []

-- No byte was pulled so far, and what was held is taken in part; or what was held closes no record.
abbrev pub PulledLate : {S : Type 0} → S → S → List ℕ → List ℕ → State → State → Type 0
PulledLate old new unread left s t = ((new ≡ old) × (gives true s unread ≡ gives true t left)) ⊎ (gives true s unread ≡ [])
