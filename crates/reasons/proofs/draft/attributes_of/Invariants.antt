use Rattle.std.proofs.Common.{◌≡◌, ◌++◌}
use Rattle.reasons.proofs.draft.attributes_of.Given as goal

abbrev pub invariant-loop-t : goal.invariant-loop-t
invariant-loop-t l = l.attrs.items ++ l.t-iterator ≡ l.fn.entry.attrs
