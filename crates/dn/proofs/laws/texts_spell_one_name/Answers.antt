use Rattle.dn.proofs.Named.{one_name}
use Rattle.dn.proofs.laws.texts_spell_one_name.Goals as goal

pub returns : goal.returns
returns c = one_name
