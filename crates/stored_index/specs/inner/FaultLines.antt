-- How far an index text was gone through, where its faulty line is looked for.
use Rattle.std.specs.Prelude.{◌≡◌, ℕ, List, [], ◌∷◌, ◌++◌, take, count_by, Option, Some, None, Err}
use Rattle.base.specs.Ascii.{line_feed}
use Rattle.memchr.specs.Find.{is_byte}
use Rattle.stored_index.specs.Cuts.{parts}
use Rattle.stored_index.specs.FaultyLines.{HasNoLineFeed}
use Rattle.stored_index.specs.FaultLines.{AreWholeLines, IsFaultLine, TellsLine}
use Rattle.stored_index.specs.inner.Drafts.{Lines, Reading, Goes, GoesOn, AreKnown, read_by}
use Rattle.stored_index.specs.inner.Named.{AreNamed}
use Rattle.stored_index.specs.declared.draft.Draft.{Draft}
use Rattle.stored_index.specs.declared.fault.IndexFaultKind.{IndexFaultKind}
use Rattle.stored_index.specs.declared.fault_lines.FaultLine.{FaultLine}

-- each text that goes on behind a line has this fault
abbrev pub HasFaultBehind : Draft → List ℕ → IndexFaultKind → Type 0
HasFaultBehind d line kind = (w : Lines → Reading) → Goes w d → (next : List ℕ) (more : Lines) → w (line ∷ next ∷ more) ≡ Err kind

-- the line of this number is at fault
pub record IsBad (d : Draft) (number : ℕ) (line : List ℕ) (fault : FaultLine) : Type 0 where
  pub number_is : fault.number ≡ number
  pub text_is : fault.text ≡ take 60 line
  pub fails : HasFaultBehind d line fault.kind

abbrev pub LineTells : Draft → Draft → ℕ → List ℕ → Option FaultLine → Type 0
LineTells old new number line None = GoesOn old new line
LineTells old new number line (Some fault) = IsBad old number line fault

-- So many lines of a text were read, then these bytes are held of a line, and then come these bytes, which end what is known of the text.
pub record Going (known : List ℕ) (d : Draft) (held rest : List ℕ) (lines : ℕ) : Type 0 where
  pub front : List ℕ
  pub known_is : known ≡ front ++ (held ++ rest)
  pub whole : AreWholeLines front
  pub lines_are : lines ≡ count_by (is_byte line_feed) front
  pub none : HasNoLineFeed held
  pub w : Lines → Reading
  pub goes : Goes w d
  pub opens : (text : List ℕ) → read_by d.given (front ++ text) ≡ w (parts line_feed text)
  pub slots : AreKnown d
  pub named : AreNamed d.given.conf.now.types

-- what is known of a text was read, and the draft is of the same; or it holds a line at fault, as each text that goes on behind it does
abbrev pub PieceTells : List ℕ → Draft → Draft → List ℕ → ℕ → Option FaultLine → Type 0
PieceTells known old new held lines None = (new.given ≡ old.given) × Going known new held [] lines
PieceTells known old new held lines (Some fault) = (more : List ℕ) → IsFaultLine old.given.conf.now old.given.entries old.given.stamp.now (known ++ more) fault

abbrev pub EndTells : List ℕ → Draft → Option FaultLine → Type 0
EndTells known d found = TellsLine d.given.conf.now d.given.entries d.given.stamp.now known found
