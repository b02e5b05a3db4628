use Rattle.databases.proofs.ShownRanks.{reflect}
use Rattle.databases.proofs.laws.index_texts_reflect_dumps.Goals as goal

pub returns : goal.returns
returns c = reflect
