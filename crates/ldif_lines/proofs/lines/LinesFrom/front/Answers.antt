use Rattle.std.proofs.Common.{sym, ap, arith, length}
use Rattle.std.proofs.lemmas.List.{length-take-le}
use Rattle.ldif_lines.proofs.CutLemmas.{length_cut}
use Rattle.ldif_lines.proofs.lines.LinesFrom.front.Goals as goal

pub slice_bounds-result-end : goal.slice_bounds-result-end
slice_bounds-result-end c =
    sym (length-take-le c.args.len c.self.inside.ends.now (omega (arith, c.requires, ap length c.self.view_is, length_cut c.self.inside.start c.self.inside.ends.now c.self.inside.bytes.now)))
