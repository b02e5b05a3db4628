use Rattle.std.proofs.Common.{arith}
use Rattle.std.proofs.lemmas.Grind.{common_steps}
use Rattle.paths.specs.Packed.{type_code}
use Rattle.paths.proofs.packing.push_type.Goals as goal

pub returns : goal.returns
unfolding type_code
returns c = grind (arith, common_steps)
