use Rattle.std.proofs.Common.{◌∙◌, ap}
use Rattle.std.specs.Ordering.{is_eq}
use Rattle.std.specs.Prelude.{nat_eq}
use Rattle.std.specs.Cmp.Lexicographic.{pointwise, texts_ties}
use Rattle.paths.specs.Packed.{pack}
use Rattle.paths.proofs.PackOrder.{packed_order}
use Rattle.paths.proofs.path.PathPartialEq.eq.Goals as goal

pub returns : goal.returns
returns c =
    c.eq.ensures ∙ (λ i. pointwise nat_eq (c.bytes.ensures i) (c.bytes-2.ensures i))
    ∙ texts_ties (pack c.args.self.now) (pack c.args.other.now) ∙ ap is_eq (packed_order c.args.self.now c.args.other.now)
