use Rattle.std.proofs.Common.{Option, ◌∙◌, subst}
use Rattle.std.specs.Prelude.{IfSome}
use Rattle.server_schema.specs.declared.repair.Repair.{Repair}
use Rattle.server_schema.specs.Repairs.{IsRepairOf}
use Rattle.server_schema.proofs.Growing.{repair_tried}
use Rattle.server_schema.proofs.growth.take_repaired.Goals as goal

pub returns : goal.returns
returns c =
    repair_tried _ _ _ _ c.in-Some.repair.definition _ _ (subst (λ (o : Option Repair). IfSome o (λ r. IsRepairOf c.args.definition.now r.definition)) c.in-Some.is c.in_ok-repair.ensures)
    (c.deref.ensures.value ∙ c.in_ok-lines.ensures) c.in_ok-taken.ensures.read c.in_ok-taken.ensures.put
