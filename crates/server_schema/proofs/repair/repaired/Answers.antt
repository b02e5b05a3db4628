use Rattle.std.proofs.Common.{List, ℕ, Option, refl, sym, subst}
use Rattle.std.specs.Prelude.{IfSome}
use Rattle.server_schema.specs.declared.definition.Sort.{Sort}
use Rattle.server_schema.specs.declared.repair.Step.{Step}
use Rattle.server_schema.specs.Repairs.{IsStep, IsRepaired, unchanged, changed}
use Rattle.server_schema.proofs.repair.repaired.Goals as goal

pub loop-init : goal.loop-init
loop-init c =
    let d = c.args.definition.now in
    (refl, subst (λ (t : List ℕ). IsRepaired d.sort d.text t) (sym c.in_ok-copy.ensures) (unchanged d.text))

pub loop-preserved : goal.loop-preserved
loop-preserved c =
    let d = c.args.definition.now in
    let at = c.loop.current in
    let step = c.in-Some-2.step in
    let is_step = subst (λ (o : Option Step). IfSome o (λ s. IsStep at.sort at.text s.text)) c.in-Some-2.is c.in_ok-step.ensures in
    (refl, changed d.text at.text step.text c.loop.invariant.1 (subst (λ (s : Sort). IsStep s at.text step.text) c.loop.invariant.0 is_step))
