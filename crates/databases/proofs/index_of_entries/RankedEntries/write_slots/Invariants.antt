use Rattle.std.proofs.Common.{◌≡◌, ◌++◌, drop}
use Rattle.std.specs.Prelude.{IfSome}
use Rattle.index_keys.specs.TypeNorms.{AreNormsOf}
use Rattle.ldif.specs.Written.{SoFar}
use Rattle.databases.specs.IndexTexts.{slots_lines}
use Rattle.databases.proofs.index_of_entries.RankedEntries.write_slots.Given as goal

abbrev pub invariant-loop-slot : goal.invariant-loop-slot
invariant-loop-slot g l = record {
  failures : (g.W.Sink.written l.sink).failed ≡ (g.W.Sink.written l.fn.sink).failed;
  kept : IfSome l.kept (λ k. AreNormsOf l.self.database.now.conf.types l.self.entries.now k.type_id k.norms.items);
  so_far : SoFar (g.W.Sink.written l.fn.sink) (g.W.Sink.written l.sink)
      (l.fn.text.items ++ slots_lines l.self.database.now.conf l.self.database.now.entries l.self.database.now.conf.slots)
      (l.text.items ++ slots_lines l.self.database.now.conf l.self.database.now.entries (drop l.slot-index l.slot-items));
}
