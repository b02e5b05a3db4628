use Rattle.std.proofs.Common.{◌≡◌, ◌++◌}
use Rattle.databases.specs.inner.Dumps.{AreKnown, selected_text}
use Rattle.databases.proofs.dump.put_attributes.Given as goal

abbrev pub invariant-loop-t : goal.invariant-loop-t
invariant-loop-t l = record {
  known : AreKnown l.conf.types l.t-iterator;
  text : l.out.items ++ selected_text l.fn.width l.conf.types l.selection l.t-iterator ≡ l.fn.out.items ++ selected_text l.fn.width l.conf.types l.selection l.entry.attrs;
}
