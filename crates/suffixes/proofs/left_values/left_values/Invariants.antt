use Rattle.suffixes.specs.inner.Lines.{AreKnown}
use Rattle.suffixes.proofs.left_values.left_values.Given as goal

abbrev pub invariant-loop-ava : goal.invariant-loop-ava
invariant-loop-ava l = AreKnown l.conf.types l.left.items
