use Rattle.std.proofs.Common.{arith}
use Rattle.std.proofs.lemmas.Grind.{common_steps}
use Rattle.databases.proofs.runs.write_report.Goals as goal

pub returns-clause-device : goal.returns-clause-device
returns-clause-device g c = grind (arith, common_steps)
