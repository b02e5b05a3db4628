use Rattle.std.proofs.Common.{◌∙◌, ap}
use Rattle.std.proofs.lemmas.Result.{IfOk-weaker}
use Rattle.clap.specs.Words.{Shape, app_of, with_subcommand}
use Rattle.command_line.proofs.Added.{local}
use Rattle.command_line.proofs.options.with_tool.Goals as goal

pub returns : goal.returns
returns c =
    let plain = local c.in_ok-command_of.field-0 (ap (λ (s : Shape). s.is_plain) c.in_ok-command_of.ensures) in
    IfOk-weaker c.subcommand.result _ _ (λ _ added. added.shape plain ∙ ap (with_subcommand (app_of c.args.command)) c.in_ok-command_of.ensures) c.subcommand.ensures
