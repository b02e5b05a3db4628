use Rattle.schema.proofs.SubtypeTests.{subtype_told}
use Rattle.schema.proofs.laws.subtypes_are_told.Goals as goal

pub returns : goal.returns
returns c = λ conf t u is lt. subtype_told conf.types is.fits t u lt
