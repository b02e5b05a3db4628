use Rattle.std.proofs.Common.{◌≡◌, ◌++◌, drop}
use Rattle.std.specs.List.{flat_map}
use Rattle.checks.specs.ConfFaults.{found_report}
use Rattle.checks.proofs.conf_faults.put_faults.Given as goal

abbrev pub invariant-loop-found : goal.invariant-loop-found
invariant-loop-found l = l.out.items ++ flat_map (found_report l.faults) (drop l.found-index l.faults) ≡ l.fn.out.items ++ flat_map (found_report l.faults) l.faults
