use Rattle.std.proofs.Common.{◌≡◌, ◌++◌, drop, map}
use Rattle.sorting.specs.NormalNames.{normal_rdn}
use Rattle.sorting.proofs.normal_names.normal_rdns.Given as goal

abbrev pub invariant-loop-rdn : goal.invariant-loop-rdn
invariant-loop-rdn l = l.rdns ++ map normal_rdn (drop l.rdn-index l.name) ≡ map normal_rdn l.fn.name
