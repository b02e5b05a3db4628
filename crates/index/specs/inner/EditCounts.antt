-- The number that steps from zero come to.
use Rattle.std.specs.Prelude.{ℕ, ◌+◌, Option, None, Some}
use Rattle.std.specs.declared.snapshot.Snapshot.{Snapshot}
use Rattle.index.specs.declared.edit_count.Step.{Step}
use Rattle.index.specs.declared.edit_count.Step.TheOpen.{Step-F}
use Rattle.index.specs.declared.edit_count.Step.TheFolds.{fold-Step}

abbrev pub one_more : Option (Snapshot ℕ) → ℕ
one_more None = 0
one_more (Some before) = before.value + 1

abbrev pub count_step : Step-F ℕ → ℕ
count_step step = one_more step.before

abbrev pub steps_of : Step → ℕ
steps_of = fold-Step ℕ count_step
