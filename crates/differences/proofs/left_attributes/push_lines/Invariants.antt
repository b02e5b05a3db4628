use Rattle.std.proofs.Common.{◌≡◌, ◌++◌, drop}
use Rattle.differences.specs.inner.Cuts.{texts}
use Rattle.differences.specs.inner.LentAttributes.{named_lines}
use Rattle.differences.proofs.left_attributes.push_lines.Given as goal

abbrev pub invariant-loop-value : goal.invariant-loop-value
invariant-loop-value l = l.lines.items ++ named_lines l.name (texts (drop l.value-index l.values)) ≡ l.fn.lines.items ++ named_lines l.name (texts l.values)
