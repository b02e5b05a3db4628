-- The commands of slaptools, and the options of each, in clap's words.
use Rattle.std.specs.Prelude.{ℕ, true, false, List, [], ◌∷◌, map, Some, codes}
use Rattle.clap.specs.Lexer.{usize_max}
use Rattle.clap.specs.Words.{App, Rule, Shape, Text, new_rule}
use Rattle.clap.specs.Simple.{new_shape}
use Rattle.clap.specs.declared.builder.action.ArgAction.TheVariants.{Set, SetTrue, Append}
use Rattle.command_line.specs.declared.options.CommandOption.{CommandOption}
use Rattle.command_line.specs.declared.options.CommandOption.TheVariants.{Folder, Wait, File, Value, LongValue, Flag, LongFlag, OtherWords}
use Rattle.command_line.specs.declared.options.Tool.{Tool}

-- ---- options

-- an option with a name and a value, as `--unique TYPES`
abbrev pub long_option : Text → Rule
long_option id = record (new_rule id) { long = Some id; value_names = 1; action = Some Set }

-- `--db DIR`, which each command needs but sort and schema
abbrev pub folder_option : Rule
folder_option = record (long_option (codes "db")) { required = true }

-- `--wait SECONDS`, which each command that writes the directory takes
abbrev pub wait_option : Rule
wait_option = long_option (codes "wait")

-- an option with a value, as `-l FILE`; `short` is its letter
abbrev pub value_option : Text → ℕ → Rule
value_option id short = record (new_rule id) {
  short = Some short;
  value_names = 1;
  action = Some Set;
}

abbrev pub file_option : ℕ → Rule
file_option short = value_option (codes "file") short

-- an option without a value, as `-c`
abbrev pub flag : Text → ℕ → Rule
flag id short = record (new_rule id) { short = Some short; action = Some SetTrue }

-- an option without a value that has a name and no letter, as `--unordered`
abbrev pub long_flag : Text → Rule
long_flag id = record (new_rule id) { long = Some id; action = Some SetTrue }

-- the words that belong to no option, any number of them
abbrev pub other_words : Rule
other_words = record (new_rule (codes "words")) {
  value_names = 1;
  range = Some (record { start_inclusive = 0; end_inclusive = usize_max });
  action = Some Append;
}

-- `-o ldif-wrap=N|no`, which the commands that print entries have
abbrev pub wrap_option : Rule
wrap_option = value_option (codes "wrap") 111

-- `-v`, which each command has but sort and schema
abbrev pub verbose_option : Rule
verbose_option = flag (codes "verbose") 118

-- ---- commands

abbrev pub command : Text → List Rule → Shape
command name options = record (new_shape name) { rules = options }

-- what clap is told of an option, and of a command
abbrev pub rule : CommandOption → Rule
rule Folder = folder_option
rule Wait = wait_option
rule (File short help) = file_option short
rule (Value id short value_name help) = value_option id.now short
rule (LongValue id value_name help) = long_option id.now
rule (Flag id short help) = flag id.now short
rule (LongFlag id help) = long_flag id.now
rule OtherWords = other_words

abbrev pub shape : Tool → Shape
shape tool = command tool.name.now (map rule tool.options.now)

-- slapadd --db DIR [-l FILE] [-c] [-u] [--wait SECONDS] [-v]
abbrev pub slapadd : Shape
slapadd = command (codes "slapadd")
    (folder_option ∷ file_option 108 ∷ flag (codes "go_on") 99 ∷ flag (codes "dry_run") 117
    ∷ wait_option ∷ verbose_option ∷ [])

-- ldapmodify --db DIR [-f FILE] [-a] [-c] [-n] [--wait SECONDS] [-v]
abbrev pub ldapmodify : Shape
ldapmodify = command (codes "ldapmodify")
    (folder_option ∷ file_option 102 ∷ flag (codes "add") 97 ∷ flag (codes "go_on") 99
    ∷ flag (codes "dry_run") 110 ∷ wait_option ∷ verbose_option ∷ [])

-- slapindex --db DIR [--wait SECONDS] [-v]
abbrev pub slapindex : Shape
slapindex = command (codes "slapindex") (folder_option ∷ wait_option ∷ verbose_option ∷ [])

-- search --db DIR [-b NAME] [-s SCOPE] [-z N] [-f FILE] [-c] [--count] [-o ldif-wrap=N|no] [-v] [WORD..]
abbrev pub search : Shape
search = command (codes "search")
    (folder_option ∷ value_option (codes "base") 98 ∷ value_option (codes "scope") 115
    ∷ value_option (codes "limit") 122 ∷ file_option 102 ∷ flag (codes "go_on") 99
    ∷ long_flag (codes "count") ∷ wrap_option ∷ verbose_option ∷ other_words ∷ [])

-- slapcat --db DIR [-l FILE] [-a FILTER] [-s NAME] [--suffix NAME] [-o ldif-wrap=N|no] [-v]
abbrev pub slapcat : Shape
slapcat = command (codes "slapcat")
    (folder_option ∷ file_option 108 ∷ value_option (codes "filter") 97
    ∷ value_option (codes "base") 115 ∷ long_option (codes "suffix") ∷ wrap_option ∷ verbose_option ∷ [])

-- ldifdiff --db DIR [-l FILE] [-b NAME] [-a FILTER] [--unordered] [-v]
abbrev pub ldifdiff : Shape
ldifdiff = command (codes "ldifdiff")
    (folder_option ∷ file_option 108 ∷ value_option (codes "base") 98
    ∷ value_option (codes "filter") 97 ∷ long_flag (codes "unordered") ∷ verbose_option ∷ [])

-- check --db DIR [--unique TYPES] [--references TYPES] [-l FILE] [-v]
abbrev pub check : Shape
check = command (codes "check")
    (folder_option ∷ long_option (codes "unique") ∷ long_option (codes "references") ∷ file_option 108
    ∷ verbose_option ∷ [])

-- sort [-l FILE]
abbrev pub sort : Shape
sort = command (codes "sort") (file_option 108 ∷ [])

-- schema [-l FILE] [--db DIR]
abbrev pub schema : Shape
schema = command (codes "schema") (file_option 108 ∷ long_option (codes "db") ∷ [])

-- one of them has to be named, or else `--help` or `--version`
abbrev pub slaptools : App
slaptools = record {
  top = record (new_shape (codes "slaptools")) { is_leaf = false; has_version = true; subcommand_required = true };
  subs = slapadd ∷ ldapmodify ∷ slapindex ∷ search ∷ slapcat ∷ ldifdiff ∷ check ∷ sort ∷ schema ∷ [];
}
