use Rattle.std.proofs.Common.{◌≡◌, ◌+◌, length, ap, ◌∙◌, arith}
use Rattle.std.specs.List.{sum_by}
use Rattle.ldif_lines.specs.inner.Cuts.{cut_at}
use Rattle.ldif_lines.proofs.CutLemmas.{sum_cut}
use Rattle.ldif_lines.proofs.lines.Lines.byte_len.Goals as goal

pub returns-clause-len : goal.returns-clause-len
returns-clause-len c =
    let all : 0 + sum_by length (cut_at 0 c.self.inside.ends.items c.self.inside.bytes.items) ≡ length c.self.inside.bytes.items = sum_cut 0 _ _ c.self.invariant in
    omega (arith, all, c.self.inside.bytes.ok.0, c.len.ensures) ∙ ap (sum_by length) c.self.view_is
