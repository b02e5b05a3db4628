use Rattle.definitions.specs.Elements.{element_field}
use Rattle.std.proofs.lemmas.Grind.{common_steps}
use Rattle.std.proofs.Common.{arith}
use Rattle.definitions.proofs.element.element_field.Goals as goal

pub returns-then-is_extension : goal.returns-then-is_extension
unfolding element_field
returns-then-is_extension c = grind (arith, common_steps)
