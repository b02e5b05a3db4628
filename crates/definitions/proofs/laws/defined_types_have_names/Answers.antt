use Rattle.definitions.proofs.Defined.{defined}
use Rattle.definitions.proofs.laws.defined_types_have_names.Goals as goal

pub returns-clause-oid : goal.returns-clause-oid
returns-clause-oid c = λ text d e. (defined text d e).oid

pub returns-clause-names : goal.returns-clause-names
returns-clause-names c = λ text d e. (defined text d e).names
