use Rattle.index_keys.proofs.WindowSteps.{no_windows, one_window, one_less}
use Rattle.index_keys.proofs.windows.first_window.Goals as goal

pub returns-in-None-clause-windows : goal.returns-in-None-clause-windows
returns-in-None-clause-windows c = no_windows c.args.text.now c.in-None.ensures.cases

pub returns-in-Some-clause-windows : goal.returns-in-Some-clause-windows
returns-in-Some-clause-windows c = one_window c.args.text.now c.in-Some.window.now c.in-Some.ensures.cases.enough c.in-Some.ensures.cases.same

pub returns-in-Some-clause-shorter : goal.returns-in-Some-clause-shorter
returns-in-Some-clause-shorter c = one_less c.args.text.now c.in-Some.ensures.cases.enough
