use Rattle.std.proofs.Common.{◌∙◌}
use Rattle.std.specs.Ordering.{nat_cmp}
use Rattle.std.specs.Cmp.Lexicographic.{slice_cmp}
use Rattle.paths.proofs.PackOrder.{packed_order}
use Rattle.paths.proofs.path.PathOrd.cmp.Goals as goal

pub returns : goal.returns
returns c = c.cmp.ensures ∙ (λ i. slice_cmp nat_cmp (c.bytes.ensures i) (c.bytes-2.ensures i)) ∙ packed_order c.args.self.now c.args.other.now
