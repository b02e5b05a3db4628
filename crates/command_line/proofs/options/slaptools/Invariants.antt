use Rattle.std.proofs.Common.{◌≡◌, drop, map}
use Rattle.std.specs.Prelude.{fold}
use Rattle.clap.specs.Words.{app_of, with_subcommand}
use Rattle.command_line.specs.CommandLine.{shape, slaptools}
use Rattle.command_line.proofs.options.slaptools.Given as goal

-- with the commands that are left it is slaptools
abbrev pub invariant-loop-tool : goal.invariant-loop-tool
invariant-loop-tool l =
    fold with_subcommand (app_of l.command) (map shape (drop l.tool-index l.tool-items)) ≡ slaptools
