-- What the words of a command line ask for.
use Rattle.std.specs.Prelude.{◌≡◌, ◌≢◌, ◌⊎◌, ◌<◌, ◌≤◌, ◌+◌, ◌^◌, ◌==◌, ◌||◌, ⊤, ℕ, Bool, true, false, List, []}
use Rattle.std.specs.Prelude.{◌∷◌, ◌++◌, length, map, Option, Some, None, option_copied, unwrap_or, IsSome, IsSomeAnd}
use Rattle.std.specs.Prelude.{Result, Ok, Err, if◌then◌else◌, find, option_and_then, bytes_eq, codes, slice_index}
use Rattle.std.specs.List.{list_any}
use Rattle.std.specs.Str.Parse.{IsNumeral, digits_value}
use Rattle.clap.specs.Words.{IsAmong, Row, Text, all_of, fault_of, first_of, subcommand_of}
use Rattle.clap.specs.declared.parser.matches.ValueSource.{ValueSource}
use Rattle.clap.specs.declared.parser.matches.ValueSource.TheVariants.{CommandLine}
use Rattle.clap.specs.declared.error.kind.ErrorKind.{ErrorKind}
use Rattle.clap.specs.declared.error.kind.ErrorKind.TheVariants as kind
use Rattle.base.specs.Ascii.{line_feed}
use Rattle.ldif_lines.specs.Folding.{standard_width, folded_line}
use Rattle.paths.specs.declared.scope.Scope.{Scope}
use Rattle.paths.specs.declared.scope.Scope.TheVariants.{Base, One, Sub, Children}
use Rattle.command_line.specs.declared.request.AddOptions.{AddOptions}
use Rattle.command_line.specs.declared.request.ModifyOptions.{ModifyOptions}
use Rattle.command_line.specs.declared.request.IndexOptions.{IndexOptions}
use Rattle.command_line.specs.declared.request.SearchOptions.{SearchOptions}
use Rattle.command_line.specs.declared.request.CatOptions.{CatOptions}
use Rattle.command_line.specs.declared.request.DiffOptions.{DiffOptions}
use Rattle.command_line.specs.declared.request.CheckOptions.{CheckOptions}
use Rattle.command_line.specs.declared.request.SortOptions.{SortOptions}
use Rattle.command_line.specs.declared.request.SchemaOptions.{SchemaOptions}
use Rattle.command_line.specs.declared.request.Request.{Request}
use Rattle.command_line.specs.declared.request.Request.TheVariants.{Help, Add, Modify, Index, Search, Cat, Diff, Check, Sort, Schema}
use Rattle.command_line.specs.declared.request.UsageFault.{UsageFault}
use Rattle.command_line.specs.declared.request.UsageFault.TheVariants.{Words, OutOfMemory}
use Rattle.command_line.specs.CommandLine.{slaptools}

-- for the help, unless there is no memory for its text
abbrev pub AsksForHelp : Result Request UsageFault → Type 0
AsksForHelp (Ok (Help text)) = ⊤
AsksForHelp (Err OutOfMemory) = ⊤
AsksForHelp _ = ⊥

-- ---- what one word says

-- the scope that a word names; without one, the base and all below it
abbrev pub scope_of : Option Text → Option Scope
scope_of None = Some Sub
scope_of (Some word) = if bytes_eq word (codes "sub") then Some Sub
    else (if bytes_eq word (codes "base") then Some Base
    else (if bytes_eq word (codes "one") then Some One
    else (if bytes_eq word (codes "children") then Some Children else None)))

-- the word spells a number that can be a limit, or so many seconds: decimal digits, at most 4294967295
abbrev pub IsNumber : Text → Type 0
IsNumber word = IsNumeral 10 word × (digits_value 10 word < 2 ^ 32)

-- the number that a word spells, or none
abbrev pub IsNumberOf : Text → Option ℕ → Type 0
IsNumberOf word None = ¬ (IsNumber word)
IsNumberOf word (Some number) = IsNumber word × (number ≡ digits_value 10 word)

-- the limit that a word spells; 0 is none, and so is no word
abbrev pub IsLimit : Option Text → Option ℕ → Type 0
IsLimit None limit = limit ≡ None
IsLimit (Some word) limit = IsNumber word
    × (limit ≡ (if digits_value 10 word == 0 then None else Some (digits_value 10 word)))

-- the seconds that a word spells; without one, none
abbrev pub IsWait : Option Text → ℕ → Type 0
IsWait None seconds = seconds ≡ 0
IsWait (Some word) seconds = IsNumber word × (seconds ≡ digits_value 10 word)

-- ---- how long a printed line may be (slapcat(8), ldapsearch(1): -o ldif-wrap; RFC 2849, note 2)

-- the word is `ldif-wrap=` and a number: of bytes from 2 on, or 0 for the standard width
abbrev pub WrapsAt : Text → ℕ → Type 0
WrapsAt word number = (digits : Text) × (word ≡ codes "ldif-wrap=" ++ digits) × IsNumber digits
    × (number ≡ digits_value 10 digits) × (number ≢ 1)

-- the word says that no line is folded
abbrev pub NeverWraps : Text → Type 0
NeverWraps word = word ≡ codes "ldif-wrap=no"

-- no line that fits into memory is folded to it
abbrev pub IsUnfolded : ℕ → Type 0
IsUnfolded width = (line : List ℕ) → length line < 2 ^ 63 → folded_line width line ≡ line ++ line_feed ∷ []

abbrev pub width_by : ℕ → ℕ
width_by number = if number == 0 then standard_width else number

-- the width that a word says
abbrev pub IsWidthOf : Text → ℕ → Type 0
IsWidthOf word width = ((number : ℕ) × WrapsAt word number × (width ≡ width_by number))
    ⊎ (NeverWraps word × IsUnfolded width)

-- it says one
abbrev pub SaysWidth : Text → Type 0
SaysWidth word = ((number : ℕ) × WrapsAt word number) ⊎ NeverWraps word

-- the width that a word says; without one, the standard width
abbrev pub IsLineWidth : Option Text → ℕ → Type 0
IsLineWidth None width = width ≡ standard_width
IsLineWidth (Some word) width = IsWidthOf word width

-- ---- which word is what

-- a word that begins with `(` or holds `=` is a filter, and not the name of an attribute
abbrev pub is_filter : Text → Bool
is_filter word = (slice_index word 0 == 40) || list_any (λ byte. byte == 61) word

-- the filter is the first of the words, if it is one; the others are attributes
abbrev pub filter_of : List Text → Option Text
filter_of [] = None
filter_of (word ∷ rest) = if is_filter word then Some word else None

abbrev pub attributes_of : List Text → List Text
attributes_of [] = []
attributes_of (word ∷ rest) = if is_filter word then rest else word ∷ rest

-- ---- patterns: filters with a `%s`, which stands for each line of a file in turn

-- `%s` stands at this place of a text
abbrev pub IsMark : Text → ℕ → Type 0
IsMark text place = (slice_index text place ≡ 37) × (slice_index text (place + 1) ≡ 115)

-- the first one of the text does
abbrev pub IsFirstMark : Text → ℕ → Type 0
IsFirstMark text place = IsMark text place
    × ((earlier : ℕ) → earlier < place → ¬ (IsMark text earlier))

-- a pattern is faulty where it has a `%` that isn't that of its first `%s`
abbrev pub IsFaultyPattern : Text → Type 0
IsFaultyPattern text = (place : ℕ) × (slice_index text place ≡ 37) × (¬ (IsFirstMark text place))

-- a file of lines is given, and the filter, which then is a pattern, is faulty
abbrev pub TakesFaultyPattern : Option Text → Option Text → Type 0
TakesFaultyPattern file filter = IsSome file × IsSomeAnd filter IsFaultyPattern

-- ---- what the rows of a command say: clap's note of each option, with its texts and where they come from

-- the text given for the option
abbrev pub text_of : Text → List Row → Option Text
text_of = first_of

-- the words that belong to no option
abbrev pub words_of : List Row → List Text
words_of rows = unwrap_or (all_of (codes "words") rows) []

abbrev pub is_from_words : Option ValueSource → Bool
is_from_words (Some CommandLine) = true
is_from_words _ = false

-- the option is given by the words, and not by default
abbrev pub is_given : Text → List Row → Bool
is_given id rows = is_from_words
    (option_and_then (λ row. row.source) (find (λ row. bytes_eq row.id id) rows))

-- the folder is given
abbrev pub HasFolder : List Row → Type 0
HasFolder rows = IsSome (text_of (codes "db") rows)

-- a file of lines is given, with a filter that is no pattern for them
abbrev pub HasFaultyPattern : List Row → Type 0
HasFaultyPattern rows = TakesFaultyPattern (text_of (codes "file") rows) (filter_of (words_of rows))

-- another suffix is asked for, and with it a filter or a base: an excerpt doesn't load by itself
abbrev pub MovesExcerpt : Option Text → Option Text → Option Text → Type 0
MovesExcerpt suffix filter base = IsSome suffix × (IsSome filter ⊎ IsSome base)

abbrev pub HasMovedExcerpt : List Row → Type 0
HasMovedExcerpt rows = MovesExcerpt (text_of (codes "suffix") rows) (text_of (codes "filter") rows) (text_of (codes "base") rows)

pub record IsAdd (rows : List Row) (asked : AddOptions) : Type 0 where
  pub db_is : text_of (codes "db") rows ≡ Some asked.db.now
  pub file_is : option_copied asked.file ≡ text_of (codes "file") rows
  pub go_on_is : asked.go_on ≡ is_given (codes "go_on") rows
  pub dry_run_is : asked.dry_run ≡ is_given (codes "dry_run") rows
  pub wait_is : IsWait (text_of (codes "wait") rows) asked.wait
  pub verbose_is : asked.verbose ≡ is_given (codes "verbose") rows

pub record IsModify (rows : List Row) (asked : ModifyOptions) : Type 0 where
  pub db_is : text_of (codes "db") rows ≡ Some asked.db.now
  pub file_is : option_copied asked.file ≡ text_of (codes "file") rows
  pub add_is : asked.add ≡ is_given (codes "add") rows
  pub go_on_is : asked.go_on ≡ is_given (codes "go_on") rows
  pub dry_run_is : asked.dry_run ≡ is_given (codes "dry_run") rows
  pub wait_is : IsWait (text_of (codes "wait") rows) asked.wait
  pub verbose_is : asked.verbose ≡ is_given (codes "verbose") rows

pub record IsIndex (rows : List Row) (asked : IndexOptions) : Type 0 where
  pub db_is : text_of (codes "db") rows ≡ Some asked.db.now
  pub wait_is : IsWait (text_of (codes "wait") rows) asked.wait
  pub verbose_is : asked.verbose ≡ is_given (codes "verbose") rows

pub record IsSearch (rows : List Row) (asked : SearchOptions) : Type 0 where
  pub db_is : text_of (codes "db") rows ≡ Some asked.db.now
  pub base_is : option_copied asked.base ≡ text_of (codes "base") rows
  pub scope_is : scope_of (text_of (codes "scope") rows) ≡ Some asked.scope
  pub limit_is : IsLimit (text_of (codes "limit") rows) asked.limit
  pub file_is : option_copied asked.file ≡ text_of (codes "file") rows
  pub go_on_is : asked.go_on ≡ is_given (codes "go_on") rows
  pub count_is : asked.count ≡ is_given (codes "count") rows
  pub width_is : IsLineWidth (text_of (codes "wrap") rows) asked.width
  pub filter_is : option_copied asked.filter ≡ filter_of (words_of rows)
  pub pattern_is_right : ¬ (HasFaultyPattern rows)
  pub attributes_are : map (λ word. word.now) asked.attributes.items ≡ attributes_of (words_of rows)
  pub verbose_is : asked.verbose ≡ is_given (codes "verbose") rows

pub record IsCat (rows : List Row) (asked : CatOptions) : Type 0 where
  pub db_is : text_of (codes "db") rows ≡ Some asked.db.now
  pub file_is : option_copied asked.file ≡ text_of (codes "file") rows
  pub filter_is : option_copied asked.filter ≡ text_of (codes "filter") rows
  pub base_is : option_copied asked.base ≡ text_of (codes "base") rows
  pub suffix_is : option_copied asked.suffix ≡ text_of (codes "suffix") rows
  pub whole_is_moved : ¬ (HasMovedExcerpt rows)
  pub width_is : IsLineWidth (text_of (codes "wrap") rows) asked.width
  pub verbose_is : asked.verbose ≡ is_given (codes "verbose") rows

pub record IsDiff (rows : List Row) (asked : DiffOptions) : Type 0 where
  pub db_is : text_of (codes "db") rows ≡ Some asked.db.now
  pub file_is : option_copied asked.file ≡ text_of (codes "file") rows
  pub base_is : option_copied asked.base ≡ text_of (codes "base") rows
  pub filter_is : option_copied asked.filter ≡ text_of (codes "filter") rows
  pub unordered_is : asked.unordered ≡ is_given (codes "unordered") rows
  pub verbose_is : asked.verbose ≡ is_given (codes "verbose") rows

pub record IsCheck (rows : List Row) (asked : CheckOptions) : Type 0 where
  pub db_is : text_of (codes "db") rows ≡ Some asked.db.now
  pub unique_is : option_copied asked.unique ≡ text_of (codes "unique") rows
  pub references_is : option_copied asked.references ≡ text_of (codes "references") rows
  pub file_is : option_copied asked.file ≡ text_of (codes "file") rows
  pub verbose_is : asked.verbose ≡ is_given (codes "verbose") rows

pub record IsSort (rows : List Row) (asked : SortOptions) : Type 0 where
  pub file_is : option_copied asked.file ≡ text_of (codes "file") rows

pub record IsSchema (rows : List Row) (asked : SchemaOptions) : Type 0 where
  pub file_is : option_copied asked.file ≡ text_of (codes "file") rows
  pub db_is : option_copied asked.db ≡ text_of (codes "db") rows

-- ---- what a command and its rows ask for

-- the command has this name, and its rows are such
abbrev pub IsCommand : Option (Text × List Row) → Text → (List Row → Type 0) → Type 0
IsCommand met name IsRows = IsSomeAnd met (λ command. (command.0 ≡ name) × IsRows command.1)

abbrev pub IsRequest : Option (Text × List Row) → Request → Type 0
IsRequest met (Help text) = ⊥
IsRequest met (Add asked) = IsCommand met (codes "slapadd") (λ rows. IsAdd rows asked)
IsRequest met (Modify asked) = IsCommand met (codes "ldapmodify") (λ rows. IsModify rows asked)
IsRequest met (Index asked) = IsCommand met (codes "slapindex") (λ rows. IsIndex rows asked)
IsRequest met (Search asked) = IsCommand met (codes "search") (λ rows. IsSearch rows asked)
IsRequest met (Cat asked) = IsCommand met (codes "slapcat") (λ rows. IsCat rows asked)
IsRequest met (Diff asked) = IsCommand met (codes "ldifdiff") (λ rows. IsDiff rows asked)
IsRequest met (Check asked) = IsCommand met (codes "check") (λ rows. IsCheck rows asked)
IsRequest met (Sort asked) = IsCommand met (codes "sort") (λ rows. IsSort rows asked)
IsRequest met (Schema asked) = IsCommand met (codes "schema") (λ rows. IsSchema rows asked)

-- the option has a text that is no number
abbrev pub HasNoNumber : Text → List Row → Type 0
HasNoNumber id rows = IsSomeAnd (text_of id rows) (λ word. ¬ (IsNumber word))

-- the word that is to say how long a line may be doesn't
abbrev pub HasNoWidth : List Row → Type 0
HasNoWidth rows = IsSomeAnd (text_of (codes "wrap") rows) (λ word. ¬ (SaysWidth word))

-- the scope of a search is none, or its limit, or the seconds that a command is to wait; or its filter is no pattern for the lines of a file; or
-- it isn't said how long a line may be
abbrev pub HasFaultyOption : List Row → Type 0
HasFaultyOption rows = (scope_of (text_of (codes "scope") rows) ≡ None)
    ⊎ (HasNoNumber (codes "limit") rows ⊎ (HasNoNumber (codes "wait") rows ⊎ (HasFaultyPattern rows ⊎ (HasNoWidth rows ⊎ HasMovedExcerpt rows))))

-- the words name a command with such an option
abbrev pub HasFaultyCommand : Option (Text × List Row) → Type 0
HasFaultyCommand met = IsSomeAnd met (λ command. HasFaultyOption command.1)

-- ---- what words ask for

-- clap says a text that is asked for, and no fault: the help, or the version
abbrev pub IsAskedFor : ErrorKind → Type 0
IsAskedFor said = (said ≡ kind.DisplayHelp) ⊎ (said ≡ kind.DisplayVersion)

-- for help: they are the program's name alone, or clap finds a call for help, or for the version, in them
abbrev pub AskForHelp : List Text → Type 0
AskForHelp words = (length words ≤ 1)
    ⊎ ((said : ErrorKind) × IsAskedFor said × IsAmong said (fault_of slaptools words))

abbrev pub IsHelp : Request → Type 0
IsHelp (Help text) = ⊤
IsHelp _ = ⊥

-- for help; or for a command, where clap finds no fault in the words, and this is what its name and its rows say
abbrev pub AskFor : List Text → Request → Type 0
AskFor words asked = (IsHelp asked × AskForHelp words)
    ⊎ ((fault_of slaptools words ≡ []) × IsRequest (subcommand_of slaptools words) asked)

-- clap finds a fault in the words, or an option of the command has one
abbrev pub AreFaulty : List Text → Type 0
AreFaulty words = ((fault : ErrorKind) × (¬ (IsAskedFor fault))
    × IsAmong fault (fault_of slaptools words))
    ⊎ HasFaultyCommand (subcommand_of slaptools words)

-- a fault of the words comes only of faulty ones
abbrev pub IsFaultOf : List Text → UsageFault → Type 0
IsFaultOf words (Words text) = AreFaulty words
IsFaultOf words OutOfMemory = ⊤

-- ---- on the way there: what one function tells the next

-- the command of this name needs a folder
abbrev pub TakesFolder : Text → Type 0
TakesFolder name = (name ≢ codes "sort") × (name ≢ codes "schema")

-- the command is one of slaptools', with its folder if it takes one
abbrev pub IsWhole : Option (Text × List Row) → Type 0
IsWhole met = IsSomeAnd met (λ command.
    (list_any (λ s. bytes_eq s.name command.0) slaptools.subs ≡ true)
    × (TakesFolder command.0 → HasFolder command.1))

-- a fault of the words of a command comes of such an option
abbrev pub IsFaultOfOptions : List Row → UsageFault → Type 0
IsFaultOfOptions rows (Words text) = HasFaultyOption rows
IsFaultOfOptions rows OutOfMemory = ⊤

abbrev pub IsFaultOfCommand : Option (Text × List Row) → UsageFault → Type 0
IsFaultOfCommand met (Words text) = HasFaultyCommand met
IsFaultOfCommand met OutOfMemory = ⊤

-- what is answered where clap gives an error of this kind in place of matches
abbrev pub IsAnswer : ErrorKind → Result Request UsageFault → Type 0
IsAnswer said (Ok (Help text)) = IsAskedFor said
IsAnswer said (Ok _) = ⊥
IsAnswer said (Err (Words text)) = (¬ (IsAskedFor said)) × (said ≢ kind.OutOfMemory)
IsAnswer said (Err OutOfMemory) = ⊤
