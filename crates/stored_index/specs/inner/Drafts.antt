-- How far an index text was read, line by line.
use Rattle.std.specs.Prelude.{◌≡◌, ℕ, Bool, true, ⊤, List, [], ◌∷◌, ◌++◌, Option, Some, None, Result, Ok, Err, if◌then◌else◌}
use Rattle.std.specs.List.{AllByRecursion}
use Rattle.base.specs.Answers.{◌>>=◌, Fails}
use Rattle.base.specs.Ascii.{line_feed}
use Rattle.schema.specs.declared.slots.Slot.{Slot}
use Rattle.values.specs.declared.types.AttributeType.{AttributeType}
use Rattle.values.specs.Types.{is_known}
use Rattle.index_text.specs.IndexTexts.{Row, Rows}
use Rattle.stored_index.specs.Cuts.{parts}
use Rattle.stored_index.specs.FaultyLines.{HasNoLineFeed, key_behind}
use Rattle.stored_index.specs.Gives.{kind_of}
use Rattle.index_text.specs.KeySets as keys
use Rattle.stored_index.specs.declared.asked.AskedTexts.{AskedTexts}
use Rattle.stored_index.specs.declared.fault.LineFault.{LineFault}
use Rattle.stored_index.specs.declared.fault.LineFault.TheVariants as faults
use Rattle.stored_index.specs.Reading.{is_nothing, current_header, ends_rows, rows_of, slots_of, rows_in}
use Rattle.stored_index.specs.inner.Kept.{kept_rows, kept_slots, IsLast}
use Rattle.stored_index.specs.declared.draft.Draft.{Draft}
use Rattle.stored_index.specs.declared.given.Given.{Given}
use Rattle.stored_index.specs.declared.draft.Place.{Place}
use Rattle.stored_index.specs.declared.draft.Place.TheVariants.{Header, Slots, End}
use Rattle.stored_index.specs.declared.fault.IndexFaultKind.{IndexFaultKind}
use Rattle.stored_index.specs.declared.fault.IndexFaultKind.TheVariants as kinds

abbrev pub Lines : Type 0
Lines = List (List ℕ)

-- what a text is read as
abbrev pub Reading : Type 0
Reading = Result Rows IndexFaultKind

-- ---- what the lines to come are read as: more rows of the slot that is read, and further slots

abbrev pub Coming : Type 0
Coming = Result (List Row × Rows) IndexFaultKind

module _ (types : List AttributeType) (entries : ℕ) where
  abbrev pub slots_coming : Option Slot → Option (List ℕ) → List Slot → Lines → Coming
  slots_coming None key due lines = slots_of types entries None due lines >>= λ rows. Ok ([], rows)
  slots_coming (Some slot) key due lines = rows_of key entries lines >>= λ found. slots_of types entries (Some slot) due found.1 >>= λ rows. Ok (found.0, rows)

  abbrev pub header_coming : List ℕ → Option Slot → Option (List ℕ) → List Slot → Lines → Coming
  header_coming stamp before key due [] = Err kinds.Header
  header_coming stamp before key due (line ∷ []) = Err kinds.Header
  header_coming stamp before key due (line ∷ next ∷ more) = current_header entries stamp line >>= λ _. slots_coming before key due (next ∷ more)

abbrev pub nothing_coming : Lines → Coming
nothing_coming [] = Err kinds.Form
nothing_coming (line ∷ more) = if is_nothing line more then Ok ([], []) else Err kinds.Form

abbrev pub coming_at : Place → Draft → Option (List ℕ) → Lines → Coming
coming_at Header d key lines = header_coming d.given.conf.now.types d.given.entries d.given.stamp.now d.before key d.due.now lines
coming_at Slots d key lines = slots_coming d.given.conf.now.types d.given.entries d.before key d.due.now lines
coming_at End d key lines = nothing_coming lines

abbrev pub coming : Draft → Option (List ℕ) → Lines → Coming
coming d key lines = coming_at d.place d key lines

-- ---- with what was read

-- the slot that is read, with its rows
abbrev pub open_slot : Option Slot → List Row → Rows
open_slot None rows = []
open_slot (Some slot) rows = (slot, rows) ∷ []

abbrev pub joined : Rows → List Row → Option Slot → Coming → Reading
joined done rows before (Err fault) = Err fault
joined done rows before (Ok found) = Ok (done ++ (open_slot before (rows ++ found.0) ++ found.1))

-- So far a text was read, of which the lines to come are read as this says. These rows were read, and those of them are kept that are asked for.
pub record Goes (w : Lines → Reading) (d : Draft) : Type 0 where
  pub done : Rows
  pub rows : List Row
  pub slots_kept : d.kept.slots.items ≡ kept_slots d.given.asked.now done
  pub rows_kept : d.kept.rows.items ≡ kept_rows d.given.asked.now rows
  pub last : IsLast (key_behind None rows) d.kept.last_word.items
  pub alone : d.before ≡ None → rows ≡ []
  pub closed : d.place ≡ End → d.before ≡ None
  pub goes_on : (next : List ℕ) (more : Lines) → w (next ∷ more) ≡ joined done rows d.before (coming d (key_behind None rows) (next ∷ more))

-- the slots that are still to come are of types that are there
abbrev pub AreKnown : Draft → Type 0
AreKnown d = AllByRecursion (λ s. is_known d.given.conf.now.types s.type_id ≡ true) d.due.now

-- a line was read
pub record GoesOn (old new : Draft) (line : List ℕ) : Type 0 where
  pub given : new.given ≡ old.given
  pub due : AreKnown old → AreKnown new
  pub goes : (w : Lines → Reading) → Goes w old → Goes (λ lines. w (line ∷ lines)) new

-- a fault has each text that goes on behind a line
abbrev pub FailsBehind : Draft → List ℕ → LineFault → Type 0
FailsBehind old line e = (w : Lines → Reading) → Goes w old → (next : List ℕ) (more : Lines) → Fails (kind_of e) (w (line ∷ next ∷ more))

-- ---- parts of a line's reading

abbrev pub IsFault : LineFault → IndexFaultKind → Type 0
IsFault (faults.Fault kind) due = kind ≡ due
IsFault faults.OutOfMemory due = ⊤

-- a line can't be that of a key
abbrev pub no_row : Option Slot → List ℕ → Bool
no_row None line = true
no_row (Some slot) line = ends_rows line

-- what the end of a slot puts behind the others, and what it leaves
abbrev pub closed_rows : Option Slot → List keys.Row → List (List keys.Row)
closed_rows None rows = []
closed_rows (Some slot) rows = rows ∷ []

abbrev pub rows_behind : {X : Type 0} → Option Slot → List X → List X
rows_behind None rows = rows
rows_behind (Some slot) rows = []

-- ---- the text

-- So far a text was read. These bytes are held of a line, and these come before the rest of the text.
pub record Awaits (W : List ℕ → Reading) (d : Draft) (held rest : List ℕ) : Type 0 where
  pub w : Lines → Reading
  pub goes : Goes w d
  pub none : HasNoLineFeed held
  pub same : (text : List ℕ) → W text ≡ w (parts line_feed (held ++ (rest ++ text)))

-- a piece of the text was read
pub record TakesOn (old : Draft) (held piece : List ℕ) (new : Draft) (held' : List ℕ) : Type 0 where
  pub given : new.given ≡ old.given
  pub awaits : (W : List ℕ → Reading) → Awaits W old held [] → Awaits (λ text. W (piece ++ text)) new held' []

-- a fault has each text that goes on behind a piece
abbrev pub FailsIn : Draft → List ℕ → List ℕ → LineFault → Type 0
FailsIn d held piece e = (W : List ℕ → Reading) → Awaits W d held [] → (text : List ℕ) → Fails (kind_of e) (W (piece ++ text))

-- rows were read, and these are kept of them
abbrev pub Comes : AskedTexts → List (List keys.Row) → Reading → Type 0
Comes asked kept said = (rows : Rows) × (said ≡ Ok rows) × (kept ≡ kept_slots asked rows)

-- so it is at the end of the text; or it has this fault
abbrev pub EndsAs : Draft → List ℕ → List (List keys.Row) → Type 0
EndsAs d held kept = (W : List ℕ → Reading) → Awaits W d held [] → Comes d.given.asked.now kept (W [])

abbrev pub FailsAtEnd : Draft → List ℕ → LineFault → Type 0
FailsAtEnd d held e = (W : List ℕ → Reading) → Awaits W d held [] → Fails (kind_of e) (W [])

-- what a whole text is read as
abbrev pub read_by : Given → List ℕ → Reading
read_by given text = rows_in given.conf.now given.entries given.stamp.now text
