-- The number that a count stands for.
use Rattle.std.specs.Prelude.{ℕ, ◌+◌, Option, None, Some}
use Rattle.std.specs.declared.snapshot.Snapshot.{Snapshot}
use Rattle.device.specs.declared.count.Step.TheOpen.{Step-F}
use Rattle.device.specs.declared.count.Step.{Step}
use Rattle.device.specs.declared.count.Step.TheFolds.{fold-Step}

abbrev pub remembered : Option (Snapshot ℕ) → ℕ
remembered None = 0
remembered (Some s) = s.value

abbrev pub raised : Step-F ℕ → ℕ
raised s = remembered s.before + s.by

abbrev pub number_of : Step → ℕ
number_of = fold-Step ℕ raised
