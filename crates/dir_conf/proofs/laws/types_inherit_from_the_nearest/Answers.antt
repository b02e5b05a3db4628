use Rattle.dir_conf.proofs.DefinedTypes.{text_inherits}
use Rattle.dir_conf.proofs.laws.types_inherit_from_the_nearest.Goals as goal

pub returns : goal.returns
returns c = text_inherits (λ text d e. (c.defined_types_have_names.ensures.oid text d e, c.defined_types_have_names.ensures.names text d e))
