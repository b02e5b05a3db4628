-- On which line a text is at fault: the lines before it may stand there, and with it each text has its fault.
use Rattle.std.specs.Prelude.{◌≡◌, ℕ, ◌+◌, ◌⊎◌, List, [], ◌∷◌, ◌++◌, take, count_by, Option, Some, None, Ok, Err}
use Rattle.base.specs.Ascii.{line_feed}
use Rattle.memchr.specs.Find.{is_byte}
use Rattle.schema.specs.Conf.{Conf}
use Rattle.index_text.specs.IndexTexts.{Rows}
use Rattle.stored_index.specs.Reading.{rows_in}
use Rattle.stored_index.specs.FaultyLines.{HasNoLineFeed, IsHeader, IsIndexFault}
use Rattle.stored_index.specs.declared.fault_lines.FaultLine.{FaultLine}

-- no line, or lines of which a line feed ends the last one
abbrev pub AreWholeLines : List ℕ → Type 0
AreWholeLines front = (front ≡ []) ⊎ ((body : List ℕ) × (front ≡ body ++ line_feed ∷ []))

-- Some text goes on behind these lines and is an index text, where a header can say how many entries there are and which stamp. So none of these lines
-- is at fault.
abbrev pub CanGoOn : Conf → ℕ → List ℕ → List ℕ → Type 0
CanGoOn conf entries stamp front = IsHeader entries stamp → (rest : List ℕ) × (rows : Rows) × (rows_in conf entries stamp (front ++ rest) ≡ Ok rows)

-- The fault of the text, and the line on which it stands: whole lines stand before that and can go on; with it, whatever comes behind its line feed, or
-- where the text ends in it, the fault is this.
pub record IsFaultLine (conf : Conf) (entries : ℕ) (stamp whole : List ℕ) (fault : FaultLine) : Type 0 where
  pub kind_is : IsIndexFault conf entries stamp whole fault.kind
  pub front : List ℕ
  pub line : List ℕ
  pub rest : List ℕ
  pub whole_is : whole ≡ front ++ (line ++ rest)
  pub lines : AreWholeLines front
  pub alone : HasNoLineFeed line
  pub good : CanGoOn conf entries stamp front
  pub bad : ((rest ≡ []) × (rows_in conf entries stamp (front ++ line) ≡ Err fault.kind))
      ⊎ ((more : List ℕ) × (rest ≡ line_feed ∷ more) × ((other : List ℕ) → rows_in conf entries stamp (front ++ (line ++ line_feed ∷ other)) ≡ Err fault.kind))
  pub number_is : fault.number ≡ count_by (is_byte line_feed) front + 1
  pub text_is : fault.text ≡ take 60 line

-- an index text, or a line that is at fault
abbrev pub TellsLine : Conf → ℕ → List ℕ → List ℕ → Option FaultLine → Type 0
TellsLine conf entries stamp text None = (rows : Rows) × (rows_in conf entries stamp text ≡ Ok rows)
TellsLine conf entries stamp text (Some fault) = IsFaultLine conf entries stamp text fault
