use Rattle.dn.proofs.Named.{name_sound, name_complete}
use Rattle.dn.proofs.Good.{name_good}
use Rattle.dn.proofs.laws.spelled_names_are_read.Goals as goal

pub returns-clause-read : goal.returns-clause-read
returns-clause-read c = λ text n. (name_sound text n, name_complete text n)

pub returns-clause-good : goal.returns-clause-good
returns-clause-good c = λ text n bytes said. name_good text n (name_sound text n said) bytes
