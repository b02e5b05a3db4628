use Rattle.std.proofs.Common.{length}
use Rattle.ldif.specs.Dues.{place_of}
use Rattle.ldif.proofs.WalkedLines.{IsWalked}
use Rattle.ldif.proofs.at_fault.fault_place.Given as goal

abbrev pub invariant-walk : goal.invariant-walk
invariant-walk l = IsWalked l.mode l.raw.first l.raw.lines (place_of l.due) l.rest

abbrev pub decreases-walk : goal.decreases-walk
decreases-walk l = length l.rest
