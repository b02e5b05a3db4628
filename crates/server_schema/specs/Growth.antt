-- How a text of a dir.conf grows by the lines of definitions.
use Rattle.std.specs.Prelude.{◌≡◌, ◌⊎◌, ℕ, Bool, true, false, ◌||◌, is_ok, if◌then◌else◌, List, [], ◌∷◌, ◌++◌, map}
use Rattle.std.specs.List.{flat_map, Contains}
use Rattle.base.specs.Ascii.{number_sign, space, line_feed, carriage_return}
use Rattle.base.specs.Ends.{ends_with}
use Rattle.dir_conf.specs.Configurations.{definitions_of}
use Rattle.server_schema.specs.declared.definition.Definition.{Definition}
use Rattle.server_schema.specs.declared.taking.Candidate.{Candidate}
use Rattle.server_schema.specs.Statements.{in_line}
use Rattle.server_schema.specs.Definitions.{line_of}
use Rattle.server_schema.specs.Repairs.{IsRepairOf}

-- no line of a text that defines something is at fault
abbrev pub is_read : List ℕ → Bool
is_read text = is_ok (definitions_of text)

-- ---- the end of the last line

-- what ends the last line of a text, where it isn't ended. A CR in front of an LF is no part of a line, so where the line itself ends in one, another
-- one stands behind it
abbrev pub end_of : List ℕ → List ℕ
end_of [] = []
end_of (b ∷ bs) =
    if ends_with line_feed (b ∷ bs) then []
    else (if ends_with carriage_return (b ∷ bs) then carriage_return ∷ line_feed ∷ [] else line_feed ∷ [])

-- ---- lines that are printed

abbrev pub comment_of : List ℕ → List ℕ
comment_of text = number_sign ∷ space ∷ (map in_line text ++ line_feed ∷ [])

abbrev pub IsComment : List ℕ → Type 0
IsComment line = (text : List ℕ) × (line ≡ comment_of text)

-- the line of one of these definitions
abbrev pub IsLineOf : List Definition → List ℕ → Type 0
IsLineOf ds line = (d : Definition) × Contains ds d × (line ≡ line_of d)

-- the line of a definition that is one of these but for its repairs
abbrev pub IsRepairedLineOf : List Definition → List ℕ → Type 0
IsRepairedLineOf ds line = (d : Definition) × (e : Definition) × Contains ds d × IsRepairOf d e × (line ≡ line_of e)

abbrev pub IsPrinted : List Definition → List ℕ → Type 0
IsPrinted ds line = IsComment line ⊎ (IsLineOf ds line ⊎ IsRepairedLineOf ds line)

abbrev pub concat : List (List ℕ) → List ℕ
concat lines = flat_map (λ line. line) lines

-- ---- growth

-- one of these lines is of a definition that was repaired
abbrev pub HasRepaired : List Definition → List (List ℕ) → Type 0
HasRepaired ds lines = (line : List ℕ) × Contains lines line × IsRepairedLineOf ds line

-- A text grew by lines of these definitions, with repairs or without any. Each of them has its line now, or is one of the rest. Where the text was
-- read, it still is.
pub record Grows (before : List ℕ) (ds : List Definition) (after : List ℕ) (rest : List Definition) (is_changed : Bool) : Type 0 where
  pub lines : List (List ℕ)
  pub text_is : after ≡ before ++ concat lines
  pub printed : (line : List ℕ) → Contains lines line → IsPrinted ds line
  pub kept : (d : Definition) → Contains ds d → Contains lines (line_of d) ⊎ Contains rest d
  pub came : (d : Definition) → Contains rest d → Contains ds d
  pub read : is_read before ≡ true → is_read after ≡ true
  pub changed : is_changed ≡ true → HasRepaired ds lines
  pub unchanged : is_changed ≡ false → (line : List ℕ) → Contains lines line → IsLineOf ds line

-- no line of these can stand behind the text
abbrev pub AreRefused : List ℕ → List Definition → Type 0
AreRefused text ds = (d : Definition) → Contains ds d → is_read (text ++ line_of d) ≡ false

-- ---- candidates

-- what is still to be taken
abbrev pub definitions_of_all : List Candidate → List Definition
definitions_of_all cs = map (λ (c : Candidate). c.definition.now) cs

-- each of these is one of those
abbrev pub AreAmong : List Candidate → List Candidate → Type 0
AreAmong cs others = (c : Candidate) → Contains cs c → Contains others c

-- one of them stands there with repairs only where something was repaired
abbrev pub AreMarked : Bool → List Candidate → Type 0
AreMarked is_changed cs = (c : Candidate) → Contains cs c → c.is_repaired ≡ true → is_changed ≡ true

-- of those that come of others one stands with repairs only where one of these did, or something was repaired since
abbrev pub Marks : List Candidate → List Candidate → Bool → Type 0
Marks cs others is_changed = (before : Bool) → AreMarked before cs → AreMarked (before || is_changed) others
