use Rattle.std.proofs.Common.{◌≡◌, ◌∙◌, ◌<◌, ◌≤◌, ◌+◌, List, true, length, ap, ap₂, sym, subst, drop, map}
use Rattle.std.specs.Prelude.{fold}
use Rattle.std.proofs.lemmas.List.{at_drop_all, at_drop_more, length-map}
use Rattle.clap.specs.Words.{App, app_of, with_subcommand}
use Rattle.clap.specs.Simple.{app_of_fields, on_top}
use Rattle.command_line.specs.CommandLine.{shape, slaptools}
use Rattle.command_line.specs.declared.options.Tool.{Tool}
use Rattle.command_line.proofs.options.slaptools.Goals as goal

-- the command with all commands of a list
abbrev with_all : App → List Tool → App
with_all command tools = fold with_subcommand command (map shape tools)

-- there are as many as the specification has
nine : (tools : List Tool) → map shape tools ≡ slaptools.subs → length tools ≡ 9
nine tools are = sym (length-map tools shape) ∙ ap (λ shapes. length shapes) are

pub loop-tool-init : goal.loop-tool-init
loop-tool-init c =
    let required : App → App = on_top (λ s. record s { subcommand_required = true }) in
    let versioned : App → App = on_top (λ s. record s { has_version = true }) in
    let told = ap app_of_fields c.version.ensures ∙ ap versioned (ap app_of_fields c.about.ensures ∙ c.new.ensures.app) in
    let start = ap app_of_fields c.subcommand_required-command.ensures ∙ ap required told in
    ap₂ (fold with_subcommand) start c.tools.ensures

pub loop-tool-preserved : goal.loop-tool-preserved
loop-tool-preserved c =
    let at = c.loop-tool in
    let tools = c.tools.result in
    let within = subst (λ n. at.tool-index < n) (sym (nine tools c.tools.ensures)) c.loop-tool-test.true in
    ap (λ a. with_all a (drop (at.tool-index + 1) tools)) c.in_ok-command.ensures
    ∙ sym (at_drop_more (with_all (app_of at.command)) tools at.tool-index _ within) ∙ at.invariant

pub returns : goal.returns
returns c =
    let at = c.loop-tool in
    let tools = c.tools.result in
    let past = subst (λ n. n ≤ at.tool-index) (sym (nine tools c.tools.ensures)) c.loop-tool-test.false in
    sym (at_drop_all (with_all (app_of at.command)) tools at.tool-index past) ∙ at.invariant
