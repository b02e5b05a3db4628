-- Which lines a text has: the stretches of a text stand between ends of lines, and a line stands on one stretch and those that it goes on on.
-- Empty lines and comments are lines as all others.
use Rattle.std.specs.Prelude.{◌≡◌, ℕ, ◌+◌, ◌<◌, Bool, true, false, not, ◌==◌, ◌⊎◌, List, [], ◌∷◌, ◌++◌, drop, length}
use Rattle.std.specs.List.{list_all, flat_map, AllByRecursion}
use Rattle.base.specs.Ascii.{tab, line_feed, carriage_return, space}
use Rattle.base.specs.Ends.{ends_with}
use Rattle.definitions.specs.declared.lines.Line.{Line}

-- ---- what stands between the ends of lines

abbrev pub is_in_line : ℕ → Bool
is_in_line b = not (b == line_feed)

-- behind a stretch stands a line feed, or a carriage return and one: a stretch ends with a carriage return only where another one ends it
abbrev pub IsEnd : List ℕ → List ℕ → Type 0
IsEnd stretch end = (end ≡ carriage_return ∷ line_feed ∷ []) ⊎ ((end ≡ line_feed ∷ []) × (ends_with carriage_return stretch ≡ false))

-- the stretches of a text: an end stands behind each but the last
abbrev pub AreStretches : List (List ℕ) → List ℕ → Type 0
AreStretches [] text = ⊥
AreStretches (stretch ∷ []) text = (list_all is_in_line stretch ≡ true) × (text ≡ stretch)
AreStretches (stretch ∷ next ∷ stretches) text = (end : List ℕ) × (rest : List ℕ) × (list_all is_in_line stretch ≡ true) × IsEnd stretch end × (text ≡ stretch ++ (end ++ rest)) × AreStretches (next ∷ stretches) rest

-- ---- what goes on

-- a space or a tab stands in front
abbrev pub IsIndented : List ℕ → Type 0
IsIndented stretch = (blank : ℕ) × (rest : List ℕ) × ((blank ≡ space) ⊎ (blank ≡ tab)) × (stretch ≡ blank ∷ rest)

-- the end of a stretch, and the blank in front of the next one, count as one space
abbrev pub said : List ℕ → List (List ℕ) → List ℕ
said first further = first ++ flat_map (λ stretch. space ∷ drop 1 stretch) further

-- further stretches are indented, and the first isn't empty
abbrev pub Continues : List ℕ → List (List ℕ) → Type 0
Continues first [] = Unit {0}
Continues first (stretch ∷ stretches) = (0 < length first) × AllByRecursion IsIndented (stretch ∷ stretches)

-- what is left doesn't go on
abbrev pub Stops : List ℕ → List (List ℕ) → Type 0
Stops text [] = Unit {0}
Stops text (stretch ∷ stretches) = (text ≡ []) ⊎ ¬ (IsIndented stretch)

-- the next line stands on the first stretch and all that go on behind it, and these are left; it has the number of the first
pub record Takes (number : ℕ) (line : Line) (stretches left : List (List ℕ)) : Type 0 where
  pub first : List ℕ
  pub further : List (List ℕ)
  pub stretches_are : stretches ≡ first ∷ (further ++ left)
  pub continues : Continues first further
  pub stops : Stops line.text left
  pub number_is : line.number ≡ number
  pub text_is : line.text ≡ said first further

-- one line after the other, the first with this number, until no stretch is left
abbrev pub AreTaken : ℕ → List Line → List (List ℕ) → Type 0
AreTaken number [] stretches = stretches ≡ []
AreTaken number (line ∷ lines) stretches = (left : List (List ℕ)) × (takes : Takes number line stretches left) × AreTaken (number + (1 + length takes.further)) lines left

-- the lines of a text
pub record AreLines (text : List ℕ) (lines : List Line) : Type 0 where
  pub stretches : List (List ℕ)
  pub text_is : AreStretches stretches text
  pub taken : AreTaken 1 lines stretches
