use Rattle.std.proofs.Common.{◌≡◌, false, length}
use Rattle.ldif.specs.PartLines.{last_dash}
use Rattle.ldif.proofs.parts.last_dash.Given as goal

abbrev pub invariant-walk : goal.invariant-walk
invariant-walk l = last_dash l.dash l.rest ≡ last_dash false l.fn.lines

abbrev pub decreases-walk : goal.decreases-walk
decreases-walk l = length l.rest
