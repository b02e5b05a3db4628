use Rattle.std.proofs.Common.{◌≡◌, ◌++◌, ◌-◌, length}
use Rattle.checks.specs.ConfFaults.{commented}
use Rattle.checks.proofs.conf_faults.commented.Given as goal

abbrev pub invariant-bytes : goal.invariant-bytes
invariant-bytes l = l.out.items ++ commented l.before l.rest ≡ commented (l.fn.line - 1) l.fn.text

abbrev pub decreases-bytes : goal.decreases-bytes
decreases-bytes l = length l.rest
