-- On which line of a text the word stands that a flaw is of.
use Rattle.std.specs.Prelude.{◌≡◌, ℕ, ◌+◌, ◌<◌, ◌≤◌, ◌⊎◌, true, List, [], ◌++◌, length, count_by, unwrap_or, Option, Some, None, codes}
use Rattle.std.specs.Str.{str_eq_ignore_ascii_case}
use Rattle.definitions.specs.Lines.{is_line_feed}
use Rattle.dir_conf.specs.declared.reason.ConfFlaw.{ConfFlaw}
use Rattle.dir_conf.specs.declared.reason.ConfFlaw.TheVariants as flaws
use Rattle.dir_conf.specs.declared.reason.UnreadPart.{UnreadPart}
use Rattle.dir_conf.specs.declared.reason.UnreadPart.TheVariants as parts
use Rattle.dir_conf.specs.declared.reason.NameField.{NameField}
use Rattle.dir_conf.specs.declared.reason.NameField.TheVariants as fields

abbrev pub field_word : NameField → List ℕ
field_word fields.Superior = codes "SUP"
field_word fields.Must = codes "MUST"
field_word fields.May = codes "MAY"

-- the word of the field that a flaw is of, where that is one alone
abbrev pub keyword_of : ConfFlaw → List ℕ
keyword_of (flaws.UnknownName of field word) = field_word field
keyword_of (flaws.Subtype of superior) = codes "SUP"
keyword_of (flaws.RuleSyntax of rule stated_rule stated_syntax) = codes "EQUALITY"
keyword_of (flaws.Collective of) = codes "COLLECTIVE"
keyword_of (flaws.Keyword word) = []
keyword_of flaws.Indented = []
keyword_of (flaws.Unread of part) = []
keyword_of flaws.Lists = []
keyword_of (flaws.Twice of word) = []
keyword_of (flaws.UnknownIndexed word) = []
keyword_of flaws.NoSuffix = []
keyword_of flaws.SecondSuffix = []
keyword_of (flaws.BadSuffix part) = []
keyword_of (flaws.UnknownKind word) = []
keyword_of (flaws.NoRule word kind) = []
keyword_of (flaws.TooManyTypes of) = []

abbrev pub word_in : UnreadPart → Option (List ℕ)
word_in parts.Head = None
word_in (parts.NoField word) = Some word
word_in (parts.Field word) = Some word
word_in (parts.Again word) = Some word
word_in parts.NoSyntax = None
word_in parts.End = None

-- the word that it names
abbrev pub word_of : ConfFlaw → Option (List ℕ)
word_of (flaws.Unread of part) = word_in part
word_of (flaws.UnknownName of field word) = Some word
word_of (flaws.Subtype of superior) = Some superior
word_of (flaws.Twice of word) = Some word
word_of (flaws.UnknownIndexed word) = Some word
word_of (flaws.UnknownKind word) = Some word
word_of (flaws.NoRule word kind) = Some word
word_of (flaws.Keyword word) = None
word_of flaws.Indented = None
word_of flaws.Lists = None
word_of (flaws.RuleSyntax of rule stated_rule stated_syntax) = None
word_of flaws.NoSuffix = None
word_of flaws.SecondSuffix = None
word_of (flaws.BadSuffix part) = None
word_of (flaws.Collective of) = None
word_of (flaws.TooManyTypes of) = None

-- the word to look for
abbrev pub sought : ConfFlaw → List ℕ
sought flaw = unwrap_or (word_of flaw) (keyword_of flaw)

-- a word stands on this line of a text, in any case
pub record StandsOn (text word : List ℕ) (line : ℕ) : Type 0 where
  pub front : List ℕ
  pub found : List ℕ
  pub behind : List ℕ
  pub text_is : text ≡ front ++ (found ++ behind)
  pub same : str_eq_ignore_ascii_case found word ≡ true
  pub some : 0 < length word
  pub line_is : line ≡ count_by is_line_feed front + 1

-- the line at fault, or one behind it on which the word stands
pub record IsWordLine (text word : List ℕ) (first line : ℕ) : Type 0 where
  pub behind : first ≤ line
  pub stands : (line ≡ first) ⊎ StandsOn text word line
