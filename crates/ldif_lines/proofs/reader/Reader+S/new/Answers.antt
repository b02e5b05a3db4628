use Rattle.std.proofs.Common.{refl}
use Rattle.ldif_lines.specs.Reader.{records_left}
use Rattle.ldif_lines.proofs.reader.Reader+S.new.Goals as goal

pub returns-clause-records : goal.returns-clause-records
unfolding records_left
returns-clause-records g c = refl
