use Rattle.std.proofs.Common.{◌≡◌, ◌++◌}
use Rattle.entries.proofs.kept_attributes.Attributes.copy.Given as goal

abbrev pub invariant-loop-t : goal.invariant-loop-t
invariant-loop-t l = l.map.entries ++ l.t-iterator ≡ l.self.entries
