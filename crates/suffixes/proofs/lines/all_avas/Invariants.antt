use Rattle.std.proofs.Common.{◌≡◌, ◌++◌}
use Rattle.entries.specs.StoredEntries.{attributes_of}
use Rattle.suffixes.specs.inner.Lines.{avas_in}
use Rattle.suffixes.proofs.lines.all_avas.Given as goal

abbrev pub invariant-loop-t : goal.invariant-loop-t
invariant-loop-t l = l.avas.items ++ avas_in (attributes_of l.t-iterator) ≡ avas_in (attributes_of l.entry.attrs)
