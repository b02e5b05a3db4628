-- What follows from clap's contract for the words of slaptools.
use Rattle.std.proofs.Common.{◌≡◌, ◌⊎◌, ◌∙◌, ap, sym, subst, refl, inl, inr, true, List, [], Result, Ok, Err, IfOk, IfErr}
use Rattle.clap.specs.Words.{App, HasMatchesOf, IsAmong, Text, fault_of, is_simple, is_simple_and_free, subcommand_of, subcommand_rows_of}
use Rattle.clap.specs.declared.error.kind.ErrorKind.{ErrorKind}
use Rattle.clap.specs.declared.error.kind.ErrorKind.TheVariants as kind
use Rattle.clap.specs.declared.parser.matches.ArgMatches.{ArgMatches}
use Rattle.command_line.specs.declared.request.Request.{Request}
use Rattle.command_line.specs.declared.request.Request.TheVariants.{Help, Add, Modify, Index, Search, Cat, Diff, Check, Sort, Schema}
use Rattle.command_line.specs.declared.request.UsageFault.{UsageFault}
use Rattle.command_line.specs.declared.request.UsageFault.TheVariants.{Words, OutOfMemory}
use Rattle.command_line.specs.CommandLine.{slaptools}
use Rattle.command_line.specs.Requests.{AskFor, IsAnswer, IsAskedFor, IsFaultOf, IsFaultOfCommand}

-- clap's contract speaks of each parse of slaptools
pub simple : is_simple slaptools ≡ true
simple = refl

pub simple_and_free : is_simple_and_free slaptools ≡ true
simple_and_free = refl

pub rows : (a : App) (words : List Text) (m : ArgMatches) → a ≡ slaptools → HasMatchesOf a words m
    → subcommand_rows_of m ≡ subcommand_of slaptools words
rows a words m is has = (has (ap is_simple is ∙ simple)).1 ∙ ap (λ b. subcommand_of b words) is

pub kinds : (a : App) (words : List Text) (said : ErrorKind) → a ≡ slaptools
    → (is_simple_and_free a ≡ true → (said ≡ kind.OutOfMemory) ⊎ IsAmong said (fault_of a words))
    → (said ≡ kind.OutOfMemory) ⊎ IsAmong said (fault_of slaptools words)
kinds a words said is has = subst (λ b. (said ≡ kind.OutOfMemory) ⊎ IsAmong said (fault_of b words)) is
    (has (ap is_simple_and_free is ∙ simple_and_free))

pub clean : (a : App) (words : List Text) → a ≡ slaptools
    → (is_simple_and_free a ≡ true → fault_of a words ≡ []) → fault_of slaptools words ≡ []
clean a words is none =
    ap (λ b. fault_of b words) (sym is) ∙ none (ap is_simple_and_free is ∙ simple_and_free)

pub fault_of_words : (words : List Text) (fault : UsageFault)
    → IsFaultOfCommand (subcommand_of slaptools words) fault → IsFaultOf words fault
fault_of_words words (Words text) h = inr h
fault_of_words words OutOfMemory h = h

among : (said : ErrorKind) (kinds : List ErrorKind) → ¬ (said ≡ kind.OutOfMemory)
    → (said ≡ kind.OutOfMemory) ⊎ IsAmong said kinds → IsAmong said kinds
among said kinds other (inl e) = absurd (other e)
among said kinds other (inr h) = h

not_memory : (said : ErrorKind) → IsAskedFor said → ¬ (said ≡ kind.OutOfMemory)
not_memory said (inl is) = λ e. let bad : kind.DisplayHelp ≡ kind.OutOfMemory = sym is ∙ e in cc
not_memory said (inr is) = λ e. let bad : kind.DisplayVersion ≡ kind.OutOfMemory = sym is ∙ e in cc

pub answer_asked : (words : List Text) (said : ErrorKind) (r : Result Request UsageFault)
    → (said ≡ kind.OutOfMemory) ⊎ IsAmong said (fault_of slaptools words) → IsAnswer said r → IfOk r (AskFor words)
answer_asked words said (Ok (Help text)) kinds is =
    inl (tt, inr (said, is, among said (fault_of slaptools words) (not_memory said is) kinds))
answer_asked words said (Ok (Add asked)) kinds is = absurd is
answer_asked words said (Ok (Modify asked)) kinds is = absurd is
answer_asked words said (Ok (Index asked)) kinds is = absurd is
answer_asked words said (Ok (Search asked)) kinds is = absurd is
answer_asked words said (Ok (Cat asked)) kinds is = absurd is
answer_asked words said (Ok (Diff asked)) kinds is = absurd is
answer_asked words said (Ok (Check asked)) kinds is = absurd is
answer_asked words said (Ok (Sort asked)) kinds is = absurd is
answer_asked words said (Ok (Schema asked)) kinds is = absurd is
answer_asked words said (Err fault) kinds is = tt

pub answer_faulty : (words : List Text) (said : ErrorKind) (r : Result Request UsageFault)
    → (said ≡ kind.OutOfMemory) ⊎ IsAmong said (fault_of slaptools words) → IsAnswer said r → IfErr r (IsFaultOf words)
answer_faulty words said (Err (Words text)) kinds is = inl (said, is.0, among said (fault_of slaptools words) is.1 kinds)
answer_faulty words said (Err OutOfMemory) kinds is = tt
answer_faulty words said (Ok asked) kinds is = tt
