use Rattle.std.proofs.Common.{Some, sym, List, ap, ◌∙◌}
use Rattle.std.specs.List.{slice_get}
use Rattle.ldif.specs.declared.record.Control.{Control}
use Rattle.reasons.specs.declared.explainer.Explanation.{Explanation}
use Rattle.reasons.specs.declared.reason.Reason.TheVariants as reasons
use Rattle.reasons.specs.Flaws.{checks_of}
use Rattle.reasons.specs.Reasons.{Explains}
use Rattle.reasons.specs.inner.Found.{Finds}
use Rattle.reasons.proofs.RecordFound.{ok_map, explained, first_critical}
use Rattle.reasons.proofs.explainer.explain_in_place.Goals as goal

pub returns-in-Some-clause-explains : goal.returns-in-Some-clause-explains
returns-in-Some-clause-explains c =
    let k = c.in-Some.ensures.some in
    explained c.args.lent.conf.now c.args.mode c.args.lent.tree.now.entries c.args.asked.now (Some (reasons.CriticalControl c.in-Some.control))
    (first_critical c.args.lent.conf.now c.args.mode c.args.lent.tree.now.entries c.args.asked.now c.in-Some.control k.0 (ap (λ (cs : List Control). slice_get cs c.in-Some.control) (sym c.controls_of.ensures) ∙ k.1) k.2)

pub returns-clause-explains : goal.returns-clause-explains
returns-clause-explains c =
    let conf = c.args.lent.conf.now in
    let d = c.args.lent.tree.now.entries in
    ok_map (λ (e : Explanation). Finds conf c.args.mode d c.args.asked.now (checks_of c.args.asked.now) e.reason) (λ e. Explains conf c.args.mode d c.args.asked.now e.reason)
    (λ e. explained conf c.args.mode d c.args.asked.now e.reason) c.explanation.result c.explanation.ensures.finds
