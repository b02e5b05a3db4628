use Rattle.std.proofs.Common.{◌≡◌, ◌++◌, drop}
use Rattle.sorting.specs.NormalNames.{ended_by}
use Rattle.sorting.proofs.normal_names.ended_by.Given as goal

abbrev pub invariant-loop-text : goal.invariant-loop-text
invariant-loop-text l = l.all.items ++ ended_by l.fn.end (drop l.text-index l.texts) ≡ ended_by l.fn.end l.fn.texts
