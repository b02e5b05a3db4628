use Rattle.std.proofs.Common.{not, sym, ap, ◌∙◌}
use Rattle.std.specs.Ordering.{nat_cmp}
use Rattle.std.specs.FinSet.{contains-empty}
use Rattle.candidates.proofs.held.all_or_none.Goals as goal

pub returns-then-all : goal.returns-then-all
returns-then-all g c n = ap not (contains-empty nat_cmp n) ∙ sym c.if-all.true

pub returns-else-all : goal.returns-else-all
returns-else-all g c n = contains-empty nat_cmp n ∙ sym c.if-all.false
