use Rattle.std.proofs.lemmas.Grind.{common_steps}
use Rattle.std.proofs.lemmas.Result.{IfOk-from_err}
use Rattle.std.proofs.Common.{Option, ℕ, List, sym, ap, ◌∙◌, arith}
use Rattle.std.specs.Prelude.{is_some}
use Rattle.std.specs.Str.{str_eq_ignore_ascii_case}
use Rattle.values.specs.declared.name_index.NameEntry.{NameEntry}
use Rattle.values.specs.Tables.{named, number_of, or_if}
use Rattle.values.proofs.Tables.{number_push}
use Rattle.dir_conf.proofs.Twins.{none_seen, no_twin, knows}
use Rattle.dir_conf.proofs.type_lines.has_twin.Goals as goal

pub loop-name-init : goal.loop-name-init
loop-name-init c = none_seen c.in_ok-seen.seen c.args.names.now (λ name. ap (λ (es : List NameEntry). number_of es name) c.in_ok-seen.ensures)

pub loop-name-preserved : goal.loop-name-preserved
loop-name-preserved c =
    no_twin c.args.names.now c.loop-name.name-index c.name-item.result c.loop-name.seen c.add.new.self 0
    (λ text.
    ap (λ (es : List NameEntry). number_of es text) c.in_ok-add.ensures.ok
    ∙ number_push c.loop-name.seen (named 0 c.as_slice-in-loop-name.result.now) text
    ∙ ap (λ (n : List ℕ). or_if (number_of c.loop-name.seen text) (str_eq_ignore_ascii_case n text) 0) c.as_slice-in-loop-name.ensures)
    c.loop-name-test.true c.name-item.is
    (sym (c.is_some.ensures ∙ ap (λ (o : Option ℕ). is_some o) c.get.ensures ∙ ap (knows c.loop-name.seen) c.as_slice.ensures) ∙ c.if-is_some.false) c.loop-name.invariant

pub returns-in_err-add : goal.returns-in_err-add
returns-in_err-add c = IfOk-from_err _ _ c.from_residual-in_err-add.ensures.0

pub returns-then-is_some : goal.returns-then-is_some
returns-then-is_some c = grind (arith, common_steps)

pub returns : goal.returns
returns c = grind (arith, common_steps)
