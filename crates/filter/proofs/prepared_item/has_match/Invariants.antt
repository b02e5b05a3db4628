use Rattle.std.proofs.Common.{◌≡◌}
use Rattle.filter.specs.Prepared.{has_match}
use Rattle.filter.proofs.prepared_item.has_match.Given as goal

abbrev pub invariant-loop-t : goal.invariant-loop-t
invariant-loop-t l = has_match l.types l.assertion l.t-iterator ≡ has_match l.types l.assertion l.entry.attrs
