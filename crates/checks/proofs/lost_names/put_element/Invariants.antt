use Rattle.std.proofs.Common.{◌≡◌, ◌∷◌, ◌++◌, drop}
use Rattle.checks.specs.LostNames.{lost_at}
use Rattle.checks.proofs.lost_names.put_element.Given as goal

abbrev pub invariant-loop-name : goal.invariant-loop-name
invariant-loop-name l = l.lost.items ++ lost_at l.line (drop l.name-index l.name-items) ≡ l.fn.lost.items ++ lost_at l.line (l.element.oid ∷ l.element.names)
