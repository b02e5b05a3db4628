use Rattle.std.proofs.Common.{◌≡◌, ◌++◌, drop, reverse, map}
use Rattle.ldif.specs.Written.{SoFar}
use Rattle.differences.specs.Differences.{removing}
use Rattle.differences.specs.inner.Walks.{changes_text, removals, lent_paths}
use Rattle.differences.proofs.differ.Differ.write_removals.Given as goal

abbrev pub invariant-loop-i : goal.invariant-loop-i
invariant-loop-i g l = record {
  failures : (g.W.Sink.written l.sink).failed ≡ (g.W.Sink.written l.fn.sink).failed;
  so_far : SoFar (g.W.Sink.written l.fn.sink) (g.W.Sink.written l.sink)
      (l.fn.text.items ++ changes_text (removals l.self.conf.now l.self.before.now.entries (lent_paths l.paths)))
      (l.text.items ++ changes_text (map (removing l.self.conf.now l.self.before.now.entries) (drop l.i (reverse (lent_paths l.paths)))));
}
