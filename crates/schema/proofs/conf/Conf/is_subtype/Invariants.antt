use Rattle.std.proofs.Common.{◌↔◌, ◌<◌, length}
use Rattle.schema.specs.Subtypes.{IsSubtype}
use Rattle.schema.proofs.conf.Conf.is_subtype.Given as goal

abbrev pub invariant-loop-above : goal.invariant-loop-above
invariant-loop-above l = (IsSubtype l.self.types l.fn.t l.above ↔ IsSubtype l.self.types l.at l.above) × (l.at < length l.self.types)

abbrev pub decreases-loop-above : goal.decreases-loop-above
decreases-loop-above l = l.at
