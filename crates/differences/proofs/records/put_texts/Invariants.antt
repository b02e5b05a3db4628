use Rattle.std.proofs.Common.{◌≡◌, ◌++◌, drop}
use Rattle.differences.specs.inner.Cuts.{texts}
use Rattle.differences.specs.inner.BlockTexts.{value_lines}
use Rattle.differences.proofs.records.put_texts.Given as goal

abbrev pub invariant-loop-value : goal.invariant-loop-value
invariant-loop-value l = l.out.items ++ value_lines l.name (texts (drop l.value-index l.values)) ≡ l.fn.out.items ++ value_lines l.name (texts l.values)
