use Rattle.std.proofs.Common.{refl, subst, ◌∙◌}
use Rattle.device.specs.Device.{Took}
use Rattle.commands.proofs.index_file.report_index_fault.Goals as goal

pub returns-in_default-clause-err : goal.returns-in_default-clause-err
returns-in_default-clause-err g c = (tt, refl)

pub returns-in_default-clause-can_report : goal.returns-in_default-clause-can_report
returns-in_default-clause-can_report g c = c.requires

pub returns-in-Ok-push_all-clause-reported : goal.returns-in-Ok-push_all-clause-reported
returns-in-Ok-push_all-clause-reported g c = subst (Took _ _) (c.as_bytes.ensures.value ∙ c.in-Ok.ensures) c.in-Ok-push_all.ensures.ok
