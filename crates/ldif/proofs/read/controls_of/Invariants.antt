use Rattle.std.proofs.Common.{◌≡◌, length}
use Rattle.ldif.specs.Reading.{controls_of}
use Rattle.base.proofs.Each.{onto}
use Rattle.ldif.proofs.read.controls_of.Given as goal

abbrev pub invariant-walk : goal.invariant-walk
invariant-walk l = onto l.controls (controls_of l.rest) ≡ controls_of l.fn.lines

abbrev pub decreases-walk : goal.decreases-walk
decreases-walk l = length l.rest
