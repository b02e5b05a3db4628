use Rattle.std.proofs.Common.{◌≡◌, ◌++◌, length}
use Rattle.commands.specs.Lists.{filled}
use Rattle.commands.proofs.list_text.filled.Given as goal

abbrev pub invariant-bytes : goal.invariant-bytes
invariant-bytes l = l.text.items ++ filled l.line l.rest ≡ filled l.line l.fn.pattern

abbrev pub decreases-bytes : goal.decreases-bytes
decreases-bytes l = length l.rest
