use Rattle.std.proofs.Common.{◌≡◌, ◌++◌, map, length}
use Rattle.index_keys.specs.RankedKeys.{rows_text}
use Rattle.ldif.specs.Written.{SoFar}
use Rattle.databases.proofs.index_of_entries.write_rows.Given as goal

abbrev pub invariant-loop-parts : goal.invariant-loop-parts
invariant-loop-parts g l = record {
  failures : (g.W.Sink.written l.sink).failed ≡ (g.W.Sink.written l.fn.sink).failed;
  so_far : SoFar (g.W.Sink.written l.fn.sink) (g.W.Sink.written l.sink) (l.fn.text.items ++ rows_text (map g.K.RankedKey.pair l.fn.keys)) (l.text.items ++ rows_text (map g.K.RankedKey.pair l.left));
}

abbrev pub decreases-loop-parts : goal.decreases-loop-parts
decreases-loop-parts g l = length l.left
