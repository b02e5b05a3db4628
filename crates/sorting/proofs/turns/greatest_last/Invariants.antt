use Rattle.std.proofs.Common.{◌≡◌, List, Option, drop}
use Rattle.sorting.specs.Turns.{greatest_last}
use Rattle.sorting.specs.declared.normal_names.NormalName.{NormalName}
use Rattle.sorting.specs.inner.Numbers.{AreLastNumbers}
use Rattle.sorting.proofs.turns.greatest_last.Given as goal

abbrev pub invariant-loop-text : goal.invariant-loop-text
invariant-loop-text l = (names : List (Option NormalName)) → AreLastNumbers names l.last_numbers → greatest_last names l.greatest (drop l.text-index l.texts) ≡ greatest_last names l.fn.number l.fn.texts
