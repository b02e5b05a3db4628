use Rattle.std.proofs.lemmas.Result.{IfOk-from_err}
use Rattle.candidates.proofs.Sets.{exactly_as}
use Rattle.candidates.proofs.filters.owned_on.Goals as goal

pub returns-in_err-numbers : goal.returns-in_err-numbers
returns-in_err-numbers g c = IfOk-from_err _ _ c.from_residual.ensures.0

pub returns : goal.returns
returns g c = exactly_as _ _ _ _ c.in_ok-numbers.ensures c.owned_numbers.ensures
