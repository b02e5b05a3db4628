use Rattle.std.proofs.Common.{subst}
use Rattle.memchr.specs.Find.{IsFirstByte, is_byte}
use Rattle.stored_index.proofs.CutLemmas.{first_cut}
use Rattle.stored_index.proofs.cuts.first_line.Goals as goal

pub returns-in-Some-clause-cut : goal.returns-in-Some-clause-cut
returns-in-Some-clause-cut c = first_cut c.args.text.now c.in-Some.at (subst (IsFirstByte (is_byte 10) c.args.text.now) c.in-Some.is c.memchr.ensures)
