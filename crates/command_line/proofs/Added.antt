-- What becomes of a command to which options, or other commands, are added in turn.
use Rattle.std.proofs.Common.{◌≡◌, ◌∙◌, ◌∷◌, ◌++◌, [], List, Bool, true, false, not, ◌&&◌, ap, sym, arith}
use Rattle.std.specs.Prelude.{fold}
use Rattle.std.proofs.lemmas.List.{append-nil, append_assoc}
use Rattle.clap.specs.Words.{Rule, Shape, shape_of}
use Rattle.clap.specs.declared.builder.command.Command.{Command}
use Rattle.clap.specs.declared.builder.command.Command.TheViews.{out-Command}

abbrev pub with_option : Shape → Rule → Shape
with_option command option = record command { rules = command.rules ++ option ∷ [] }

-- the options come after those that were there
pub all_options : (command : Shape) (options : List Rule)
    → fold with_option command options ≡ record command { rules = command.rules ++ options }
all_options command [] = ap (λ (rules : List Rule). record command { rules = rules }) (sym (append-nil command.rules))
all_options command (option ∷ rest) = all_options (with_option command option) rest
    ∙ ap (λ (rules : List Rule). record command { rules = rules }) (append_assoc command.rules (option ∷ []) rest)

third : (a b g rest : Bool) → (a && (not b && (not g && rest))) ≡ true → g ≡ false
third a b g rest h = grind arith

-- a plain command has no global argument
pub local : (c : Command) → (shape_of c).is_plain ≡ true → (out-Command c).has_globals ≡ false
local c h = third _ _ (out-Command c).has_globals _ h
