use Rattle.std.proofs.Common.{length}
use Rattle.std.specs.List.{AllByRecursion}
use Rattle.base64.specs.GeneralPurpose.{IsBytes}
use Rattle.ldif.proofs.read.are_in_range.Given as goal

-- where the lines that are left are bytes, all are
abbrev pub invariant-walk : goal.invariant-walk
invariant-walk l = AllByRecursion IsBytes l.rest → AllByRecursion IsBytes l.fn.lines

abbrev pub decreases-walk : goal.decreases-walk
decreases-walk l = length l.rest
