use Rattle.std.proofs.Common.{List, ℕ, Bool, codes, sym, ap, ◌∙◌}
use Rattle.std.proofs.lemmas.Result.{err_from_is_err_and}
use Rattle.ldif.specs.Gives.{fault_of}
use Rattle.ldif.specs.declared.record.Control.{Control}
use Rattle.ldif.specs.Controls.{control_of}
use Rattle.ldif.specs.Line.{same_name}
use Rattle.ldif.specs.Reading.{controls_of}
use Rattle.base.proofs.Each.{onto, onto_nothing}
use Rattle.ldif.proofs.ControlLines.{one_more, no_more, bad_line, bad_value, at_end}
use Rattle.ldif.proofs.read.controls_of.Goals as goal

abbrev is_control : List ℕ → Bool
is_control name = same_name name (codes "control")

pub walk-init : goal.walk-init
walk-init c = ap (λ (front : List Control). onto front (controls_of c.args.lines)) c.new-controls.ensures ∙ onto_nothing _

pub returns-in_err-attr : goal.returns-in_err-attr
returns-in_err-attr c =
    let p = err_from_is_err_and c.from_residual.result c.from_residual.ensures.1 in
    rw (p.1, p.2) (bad_line c.walk.controls _ _ _ _ c.in-Some.ensures c.walk.invariant (fault_of c.in_err-attr.field-0.0) c.in_err-attr.ensures)

pub returns-then-not-same_name : goal.returns-then-not-same_name
returns-then-not-same_name c =
    no_more c.walk.controls _ _ _ _ c.in-Some.ensures c.walk.invariant
    c.in_ok-attr.attr c.in_ok-attr.ensures (ap is_control (sym c.name.ensures) ∙ sym c.same_name.ensures ∙ c.if-not-same_name.true)

pub returns-in_err-control_of : goal.returns-in_err-control_of
returns-in_err-control_of c =
    let p = err_from_is_err_and c.from_residual-in_err-control_of.result c.from_residual-in_err-control_of.ensures.1 in
    rw (p.1, p.2) (bad_value c.walk.controls _ _ _ _ c.in-Some.ensures c.walk.invariant (fault_of c.in_err-control_of.field-0.0)
    c.in_ok-attr.attr c.in_ok-attr.ensures (ap is_control (sym c.name.ensures) ∙ sym c.same_name.ensures ∙ c.if-not-same_name.false) (rw (← c.value.ensures) c.in_err-control_of.ensures))

pub walk-preserved : goal.walk-preserved
walk-preserved c =
    ap (λ (front : List Control). onto front (controls_of c.in-Some.after)) c.in_ok-push.ensures.ok
    ∙ one_more c.walk.controls _ _ _ _ c.in-Some.ensures c.walk.invariant
    c.in_ok-attr.attr c.in_ok-control_of.field-0 c.in_ok-attr.ensures (ap is_control (sym c.name.ensures) ∙ sym c.same_name.ensures ∙ c.if-not-same_name.false) (ap control_of (sym c.value.ensures) ∙ c.in_ok-control_of.ensures)

pub returns : goal.returns
returns c = at_end c.walk.controls _ _ c.in_default.ensures c.walk.invariant
