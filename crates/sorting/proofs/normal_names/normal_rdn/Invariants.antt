use Rattle.std.proofs.Common.{◌≡◌, map}
use Rattle.sorting.specs.NormalNames.{ended_by}
use Rattle.sorting.proofs.normal_names.normal_rdn.Given as goal

abbrev pub invariant-loop-ava : goal.invariant-loop-ava
invariant-loop-ava l = l.text.items ≡ ended_by 43 (map (λ b. b.now) l.yielded)
