use Rattle.std.proofs.Common.{sym, ◌∙◌}
use Rattle.ldif_lines.proofs.CutLemmas.{split_fits, split_cut}
use Rattle.ldif_lines.proofs.lines.LinesFrom.split_first.Goals as goal

pub invariant_of-rest : goal.invariant_of-rest
invariant_of-rest c = split_fits c.self.inside.start _ _ c.in-len1-up.len_at_least c.self.invariant

pub returns-in-len1-up : goal.returns-in-len1-up
returns-in-len1-up c = sym c.self.view_is ∙ split_cut c.self.inside.start _ _ c.in-len1-up.len_at_least
