use Rattle.filter.specs.Filters.{truth}
use Rattle.filter.proofs.Truths.{twice}
use Rattle.filter.proofs.laws.negating_twice_changes_nothing.Goals as goal

pub returns : goal.returns
returns c = λ types attrs f. twice (truth types attrs f)
