use Rattle.std.proofs.Common.{ℕ, List, ap, nat_eq, ◌∙◌}
use Rattle.std.specs.Cmp.Lexicographic.{pointwise}
use Rattle.indexmap.specs.IndexMap.{get}
use Rattle.sentences.proofs.missing.RefusedAdds.line_of.Goals as goal

pub returns : goal.returns
returns c =
    c.copied.ensures ∙ c.get.ensures.value
    ∙ ap (λ (bs : List ℕ). get (pointwise nat_eq) c.args.self.now.lines bs) (c.in_ok-bytes.ensures ∙ c.bytes.ensures)
