use Rattle.checks.specs.inner.FoundFaults.{HasFound}
use Rattle.checks.proofs.finding_faults.first_faults.Given as goal

-- the faults of what is left stand behind those that were found
abbrev pub invariant-readings : goal.invariant-readings
invariant-readings l = HasFound l.fn.text l.left.items l.room l.faults.items l.lost.types.items l.lost.classes.items

abbrev pub decreases-readings : goal.decreases-readings
decreases-readings l = l.room
