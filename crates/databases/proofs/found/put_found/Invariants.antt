use Rattle.std.proofs.Common.{◌≡◌, ◌++◌, map}
use Rattle.databases.specs.Walks.{seen}
use Rattle.ldif.specs.Written.{SoFar}
use Rattle.databases.specs.Found.{AreThere, found_text, up_to, goes_past}
use Rattle.databases.proofs.found.put_found.Given as goal

abbrev pub invariant-loop-found : goal.invariant-loop-found
invariant-loop-found g l = record {
  failures : (g.W.Sink.written l.sink).failed ≡ (g.W.Sink.written l.fn.sink).failed;
  names : l.names ≡ l.printer.tree.now;
  there : AreThere l.printer.tree.now.entries (map seen l.found-iterator.to_come);
  past : goes_past l.left l.found-iterator.to_come ≡ goes_past l.fn.limit l.fn.hits.to_come;
  so_far : SoFar (g.W.Sink.written l.fn.sink) (g.W.Sink.written l.sink)
      (l.fn.text.items ++ found_text l.printer.width l.printer.tree.now.conf l.printer.tree.now.entries l.selection (up_to l.fn.limit (map seen l.fn.hits.to_come)))
      (l.text.items ++ found_text l.printer.width l.printer.tree.now.conf l.printer.tree.now.entries l.selection (up_to l.left (map seen l.found-iterator.to_come)));
}
