-- What is printed of a schema's text, for the end of a dir.conf.
use Rattle.std.specs.Prelude.{◌≡◌, ◌⊎◌, ℕ, Bool, true, false, ◌||◌, List, [], ◌++◌, Ok, codes}
use Rattle.std.specs.List.{Contains}
use Rattle.dir_conf.specs.declared.conf_fault.ConfFault.{ConfFault}
use Rattle.dir_conf.specs.Configurations.{Defined, definitions_of}
use Rattle.dir_conf.specs.Reads.{fault_at}
use Rattle.base.specs.Answers.{Fails}
use Rattle.server_schema.specs.declared.definition.Definition.{Definition}
use Rattle.server_schema.specs.declared.taking.Candidate.{Candidate}
use Rattle.server_schema.specs.Definitions.{definitions_in, line_of}
use Rattle.server_schema.specs.Growth.{is_read, end_of, comment_of, IsComment, IsLineOf, HasRepaired, IsPrinted, concat}
use Rattle.server_schema.specs.Grown.{IsReadBehind}
use Rattle.server_schema.specs.Stated.{is_built_in, built_in_definitions, stated_in}
use Rattle.server_schema.specs.declared.alike.Meaning.{Meaning}
use Rattle.server_schema.specs.Alike.{meanings_of, is_among}

-- it needs no line: it is built in, or one of these says the same
abbrev pub is_said : Defined → List Meaning → Definition → Bool
is_said defined stated d = is_built_in d || is_among defined stated d

-- of some definitions, those that need a line
pub record Gathers (defined : Defined) (stated : List Meaning) (ds wanted : List Definition) : Type 0 where
  pub all : (d : Definition) → Contains ds d → (is_said defined stated d ≡ true) ⊎ Contains wanted d
  pub only : (d : Definition) → Contains wanted d → Contains ds d
  pub needed : (d : Definition) → Contains wanted d → is_said defined stated d ≡ false

-- one more stands among some, wherever
pub record IsOneMore (before : List Definition) (d : Definition) (after : List Definition) : Type 0 where
  pub this : Contains after d
  pub others : (e : Definition) → Contains before e → Contains after e
  pub only : (e : Definition) → Contains after e → Contains before e ⊎ (d ≡ e)

-- the next definition needs no line, and all stays; or it is one more
abbrev pub IsStepFor : Bool → List Definition → Definition → List Definition → Type 0
IsStepFor said before d after = ((said ≡ true) × (after ≡ before)) ⊎ ((said ≡ false) × IsOneMore before d after)

abbrev pub AreComments : List ℕ → Type 0
AreComments text = (lines : List (List ℕ)) × (text ≡ concat lines) × ((line : List ℕ) → Contains lines line → IsComment line)

-- comments were put behind a text
abbrev pub AddsComments : List ℕ → List ℕ → Type 0
AddsComments before after = (more : List ℕ) × AreComments more × (after ≡ before ++ more)

abbrev pub no_definition : List ℕ
no_definition = codes "no definition of a type or a class stands here"

-- the dir.conf, the end of its last line, and lines behind it
abbrev pub with_lines : List ℕ → List (List ℕ) → List ℕ
with_lines conf lines = conf ++ (end_of conf ++ concat lines)

-- The end of the dir.conf's last line, lines of definitions in the text, as they stand or with repairs, and then comments are printed. Behind the
-- dir.conf no definition among them is at fault, and what it says of a suffix and of indexes stays. They are of definitions that aren't said already:
-- each of these stands among them, unless it can't be taken behind all that are. Where the text has no definition at all, a comment says so.
pub record IsTransferred (source conf printed : List ℕ) : Type 0 where
  pub defined : Defined
  pub defined_is : definitions_of conf ≡ Ok defined
  pub wanted : List Definition
  pub gathers : Gathers defined (meanings_of (stated_in conf)) (definitions_in source) wanted
  pub lines : List (List ℕ)
  pub remarks : List ℕ
  pub printed_is : printed ≡ end_of conf ++ (concat lines ++ remarks)
  pub read : is_read (conf ++ printed) ≡ true
  pub read_behind : IsReadBehind conf (conf ++ printed)
  pub from_wanted : (line : List ℕ) → Contains lines line → IsPrinted wanted line
  pub whole : (d : Definition) → Contains wanted d → Contains lines (line_of d) ⊎ (is_read (with_lines conf lines ++ line_of d) ≡ false)
  pub comments : AreComments remarks
  pub none : definitions_in source ≡ [] → remarks ≡ comment_of no_definition

-- each of these that is built in says the same as what is
abbrev pub SayBuiltIn : Defined → List Definition → Type 0
SayBuiltIn defined ds = (d : Definition) → Contains ds d → is_built_in d ≡ true → is_among defined (meanings_of built_in_definitions) d ≡ true

-- it says the same as a definition on the lines of this text
abbrev pub says_same : Defined → List ℕ → Definition → Bool
says_same defined text d = is_among defined (meanings_of (stated_in text)) d

-- Nothing is lost: all lines are of definitions as they stand, and each that is wanted has one, or says the same as one that stands there. Those of
-- what is built in say the same as that. There is no remark.
pub record IsWhole (source conf : List ℕ) (wanted : List Definition) (lines : List (List ℕ)) (remarks : List ℕ) : Type 0 where
  pub no_remark : remarks ≡ []
  pub unchanged : (line : List ℕ) → Contains lines line → IsLineOf wanted line
  pub grown : Defined
  pub grown_is : definitions_of (with_lines conf lines) ≡ Ok grown
  pub all : (d : Definition) → Contains wanted d → Contains lines (line_of d) ⊎ (says_same grown (with_lines conf lines) d ≡ true)
  pub built_in : SayBuiltIn grown (definitions_in source)

-- something is: a remark is printed, or the line of a definition that was repaired
abbrev pub IsPartly : List Definition → List (List ℕ) → List ℕ → Type 0
IsPartly wanted lines remarks = (remarks ≡ [] → ⊥) ⊎ HasRepaired wanted lines

-- what is printed, and what is said of that
pub record IsTold (source conf printed : List ℕ) (is_whole : Bool) : Type 0 where
  pub transferred : IsTransferred source conf printed
  pub whole : is_whole ≡ true → IsWhole source conf transferred.wanted transferred.lines transferred.remarks
  pub partly : is_whole ≡ false → IsPartly transferred.wanted transferred.lines transferred.remarks

-- ---- remarks

-- each of these stands there with repairs, or one that says the same does
abbrev pub NeedNoRemark : Defined → List Meaning → List Candidate → Type 0
NeedNoRemark defined stated cs = (c : Candidate) → Contains cs c → (c.is_repaired ≡ true) ⊎ (is_among defined stated c.definition.now ≡ true)

-- the dir.conf itself has a definition at fault, or memory ran out
abbrev pub IsRefusedFor : List ℕ → ConfFault → Type 0
IsRefusedFor conf fault = Fails (fault_at fault) (definitions_of conf)
