use Rattle.std.proofs.Common.{◌||◌, sym, subst}
use Rattle.candidates.specs.inner.Held.{hold, HoldExactly}
use Rattle.candidates.proofs.Sets.{joined_by_others}
use Rattle.candidates.proofs.held.join_numbers.Goals as goal

pub returns-in-Ok : goal.returns-in-Ok
returns-in-Ok g c =
    subst (HoldExactly _ (λ n. hold _ c.args.left n || hold _ c.args.right n)) (sym c.others-in-Ok.ensures)
    (joined_by_others _ c.args.left c.args.right c.others.result c.others-2.result c.in-Ok.numbers c.others.ensures c.others-2.ensures c.in-Ok.ensures)
