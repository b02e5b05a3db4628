use Rattle.std.proofs.Common.{◌≡◌, take}
use Rattle.suffixes.specs.inner.Lines.{lines_in}
use Rattle.suffixes.proofs.lines.lines_by.Given as goal

abbrev pub invariant-loop-t : goal.invariant-loop-t
invariant-loop-t l = l.lines.items ≡ lines_in l.conf.types (take l.t-index l.avas)
