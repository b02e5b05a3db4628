use Rattle.std.proofs.Common.{◌≡◌, ◌++◌, ℕ, List, None}
use Rattle.std.specs.List.{AllByRecursion}
use Rattle.databases.specs.Runs.{dump_to}
use Rattle.ldif.specs.Written.{SoFar}
use Rattle.databases.specs.inner.Dumps.{IsThere, entries_text}
use Rattle.databases.proofs.dump.Printer.write_dump.Given as goal

abbrev pub invariant-loop-found : goal.invariant-loop-found
invariant-loop-found g l = record {
  failures : (g.W.Sink.written l.sink).failed ≡ (g.W.Sink.written l.fn.sink).failed;
  names : l.names ≡ l.self.tree.now;
  there : AllByRecursion (IsThere l.self.tree.now.entries) l.found-iterator;
  so_far : SoFar (g.W.Sink.written l.fn.sink) (g.W.Sink.written l.sink) (dump_to l.self.width l.self.tree.now.conf l.self.tree.now.entries) (l.text.items ++ entries_text l.self.width l.self.tree.now.conf l.self.tree.now.entries None l.found-iterator);
  heard : (m : List ℕ) → g.L.Listener.heard l.fn.listener m
      → (taken : List ℕ) × g.L.Listener.heard l.listener taken × (taken ++ (l.text.items ++ entries_text l.self.width l.self.tree.now.conf l.self.tree.now.entries None l.found-iterator) ≡ m ++ dump_to l.self.width l.self.tree.now.conf l.self.tree.now.entries);
}
