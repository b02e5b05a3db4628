use Rattle.dir_conf.specs.Configurations.{placed}
use Rattle.std.proofs.lemmas.Grind.{common_steps}
use Rattle.std.proofs.Common.{arith}
use Rattle.std.proofs.lemmas.Result.{IfOk-from_err}
use Rattle.dir_conf.proofs.type_lines.place.Goals as goal

pub returns-in_err-kind-clause-room : goal.returns-in_err-kind-clause-room
returns-in_err-kind-clause-room c = IfOk-from_err _ _ c.from_residual.ensures.0

pub returns-in_err-type_below-in-Some-superior_of-clause-room : goal.returns-in_err-type_below-in-Some-superior_of-clause-room
returns-in_err-type_below-in-Some-superior_of-clause-room c = IfOk-from_err _ _ c.from_residual-in_err-type_below-in-Some-superior_of.ensures.0

pub returns-in_err-type_below-in-Some-superior_of-clause-gives : goal.returns-in_err-type_below-in-Some-superior_of-clause-gives
unfolding placed
returns-in_err-type_below-in-Some-superior_of-clause-gives c = grind (arith, common_steps)

pub returns-in_ok-type_below-in-Some-superior_of-clause-room : goal.returns-in_ok-type_below-in-Some-superior_of-clause-room
unfolding placed
returns-in_ok-type_below-in-Some-superior_of-clause-room c = grind (arith, common_steps)

pub returns-in-Some-clause-gives : goal.returns-in-Some-clause-gives
unfolding placed
returns-in-Some-clause-gives c = grind (arith, common_steps)

pub type_below-requires : goal.type_below-requires
unfolding placed
type_below-requires c = grind (arith, common_steps)
