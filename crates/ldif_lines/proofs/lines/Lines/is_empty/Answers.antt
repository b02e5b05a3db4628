use Rattle.std.proofs.Common.{◌≡◌, ℕ, List, eqb, ap, ◌∙◌, arith, length}
use Rattle.std.specs.Vec.{vec_len}
use Rattle.ldif_lines.specs.inner.Cuts.{cut_at}
use Rattle.ldif_lines.proofs.CutLemmas.{length_cut}
use Rattle.ldif_lines.proofs.lines.Lines.is_empty.Goals as goal

pub returns : goal.returns
returns c =
    let same : vec_len c.self.inside.ends ≡ length (cut_at 0 c.self.inside.ends.items c.self.inside.bytes.items) = omega (arith, c.self.inside.ends.ok.0, length_cut 0 c.self.inside.ends.items c.self.inside.bytes.items) in
    c.is_empty.ensures ∙ ap (λ (n : ℕ). eqb n 0) same ∙ ap (λ (ls : List (List ℕ)). eqb (length ls) 0) c.self.view_is
