use Rattle.std.proofs.Common.{◌≡◌, drop, map}
use Rattle.std.specs.Prelude.{fold}
use Rattle.clap.specs.Words.{shape_of}
use Rattle.command_line.specs.CommandLine.{rule, shape}
use Rattle.command_line.proofs.Added.{with_option}
use Rattle.command_line.proofs.options.command_of.Given as goal

-- with the options that are left it is the whole command
abbrev pub invariant-loop-option : goal.invariant-loop-option
invariant-loop-option l =
    fold with_option (shape_of l.command) (map rule (drop l.option-index l.option-items)) ≡ shape l.tool
