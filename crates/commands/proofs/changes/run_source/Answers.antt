use Rattle.std.proofs.Common.{refl}
use Rattle.commands.proofs.Stopping.{can_report}
use Rattle.commands.proofs.changes.run_source.Goals as goal

pub returns-in-Ok-clause-ran : goal.returns-in-Ok-clause-ran
returns-in-Ok-clause-ran g c = λ w. record { gave = c.in-Ok.ensures.gave; failures = c.in-Ok.ensures.failures; runs = c.in-Ok.ensures.runs; read = tt; stays = refl }

pub returns-in-Err-clause-broke : goal.returns-in-Err-clause-broke
returns-in-Err-clause-broke g c = (
  c.in-Err.fault,
  c.stop_of.ensures,
  λ w. record { gave = c.in-Err.ensures.gave; failures = c.in-Err.ensures.failures; runs = c.in-Err.ensures.runs; read = c.in-Err.ensures.read; stays = refl },
)

pub returns-in-Err-clause-can_report : goal.returns-in-Err-clause-can_report
returns-in-Err-clause-can_report g c = can_report c.in-Err.fault _ _ _ _ _ _ c.requires.err c.in-Err.ensures.failures c.stop_of.ensures
