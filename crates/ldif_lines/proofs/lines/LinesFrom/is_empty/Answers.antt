use Rattle.std.proofs.Common.{◌≡◌, ℕ, List, eqb, sym, ap, ◌∙◌, length}
use Rattle.ldif_lines.specs.inner.Cuts.{cut_at}
use Rattle.ldif_lines.proofs.CutLemmas.{length_cut}
use Rattle.ldif_lines.proofs.lines.LinesFrom.is_empty.Goals as goal

pub returns : goal.returns
returns c =
    let same : length c.self.inside.ends.now ≡ length (cut_at c.self.inside.start c.self.inside.ends.now c.self.inside.bytes.now) = sym (length_cut c.self.inside.start c.self.inside.ends.now c.self.inside.bytes.now) in
    c.is_empty.ensures ∙ ap (λ (n : ℕ). eqb n 0) same ∙ ap (λ (ls : List (List ℕ)). eqb (length ls) 0) c.self.view_is
