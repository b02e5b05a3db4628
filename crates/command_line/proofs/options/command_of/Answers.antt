use Rattle.std.proofs.Common.{◌∙◌, List, ap, sym, drop, map, ◌+◌}
use Rattle.std.specs.Prelude.{fold}
use Rattle.std.proofs.lemmas.List.{at_drop_all, at_drop_more}
use Rattle.clap.specs.Words.{App, Shape, shape_of}
use Rattle.clap.specs.Simple.{app_of_fields}
use Rattle.command_line.specs.CommandLine.{rule}
use Rattle.command_line.specs.declared.options.CommandOption.{CommandOption}
use Rattle.command_line.proofs.Added.{all_options, with_option}
use Rattle.command_line.proofs.options.command_of.Goals as goal

-- the command with all options of a list
abbrev with_all : Shape → List CommandOption → Shape
with_all command options = fold with_option command (map rule options)

pub loop-option-init : goal.loop-option-init
loop-option-init c =
    let start = ap (λ (a : App). a.top) (ap app_of_fields c.after_help-command.ensures ∙ ap app_of_fields c.about.ensures ∙ c.new.ensures.app) in
    ap (λ s. with_all s c.args.tool.options.now) start ∙ all_options _ (map rule c.args.tool.options.now)

pub loop-option-preserved : goal.loop-option-preserved
loop-option-preserved c =
    let at = c.loop-option in
    let added = ap (λ (a : App). a.top) (c.in_ok-command.ensures.shape c.arg_of.ensures.local) ∙ ap (with_option (shape_of at.command)) c.arg_of.ensures.rule in
    ap (λ s. with_all s (drop (at.option-index + 1) c.args.tool.options.now)) added ∙ sym (at_drop_more (with_all (shape_of at.command)) c.args.tool.options.now at.option-index _ c.loop-option-test.true) ∙ at.invariant

pub returns : goal.returns
returns c =
    sym (at_drop_all (with_all (shape_of c.loop-option.command)) c.args.tool.options.now c.loop-option.option-index c.loop-option-test.false) ∙ c.loop-option.invariant
