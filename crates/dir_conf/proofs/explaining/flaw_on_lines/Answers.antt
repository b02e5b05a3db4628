use Rattle.std.proofs.Common.{subst}
use Rattle.dir_conf.specs.inner.Passes.{FirstTells}
use Rattle.dir_conf.specs.inner.Views.{defined_view}
use Rattle.dir_conf.proofs.Passes.{told_on}
use Rattle.dir_conf.proofs.explaining.flaw_on_lines.Goals as goal

pub returns-in-Defined : goal.returns-in-Defined
returns-in-Defined c =
    told_on c.args.lines.now (defined_view c.in-Defined.known) (subst (FirstTells c.args.lines.now) c.in-Defined.is c.in_ok-known.ensures) c.second_pass.result c.second_pass.ensures
