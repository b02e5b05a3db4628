use Rattle.schema.proofs.Lineages.{listed}
use Rattle.schema.proofs.laws.superclasses_are_listed.Goals as goal

pub returns : goal.returns
returns c = λ conf named d is. listed conf.classes (λ k lt. (is.classes k lt).superiors) named d
