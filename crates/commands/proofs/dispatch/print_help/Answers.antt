use Rattle.std.proofs.Common.{refl, subst}
use Rattle.device.specs.Device.{Took, Broke}
use Rattle.commands.specs.Commands.{HelpStops}
use Rattle.commands.proofs.Stopping.{stopped}
use Rattle.commands.proofs.dispatch.print_help.Goals as goal

pub returns-in-Ok : goal.returns-in-Ok
returns-in-Ok g c = λ w. (refl, record { took = subst (Took _ _) c.as_bytes.ensures.value c.in-Ok.ensures.ok; stays = refl })

pub returns-in-Err : goal.returns-in-Err
returns-in-Err g c = λ w. stopped (HelpStops c.args.text.now) _ _ _ (record {
  why = c.cannot_write.ensures;
  broke = subst (Broke _ _) c.as_bytes.ensures.value c.in-Err.ensures.device;
  only = record { stored = refl; stays = refl };
}) refl
