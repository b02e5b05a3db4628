use Rattle.dn.specs.Writing.{text_of}
use Rattle.dn.proofs.Named.{name_complete}
use Rattle.dn.proofs.Spelled.{name_spelled}
use Rattle.dn.proofs.Ascii.{name_ascii}
use Rattle.dn.proofs.laws.written_names_are_read.Goals as goal

pub returns-clause-spelled : goal.returns-clause-spelled
returns-clause-spelled c = name_spelled

pub returns-clause-read : goal.returns-clause-read
returns-clause-read c = λ n h. name_complete (text_of n) n (name_spelled n h)

pub returns-clause-ascii : goal.returns-clause-ascii
returns-clause-ascii c = name_ascii
