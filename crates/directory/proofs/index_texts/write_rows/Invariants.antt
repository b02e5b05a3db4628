use Rattle.std.proofs.Common.{◌≡◌, ◌++◌}
use Rattle.ldif.specs.Written.{SoFar}
use Rattle.directory.specs.inner.IndexRows.{rows_text}
use Rattle.directory.proofs.index_texts.write_rows.Given as goal

abbrev pub invariant-loop-row : goal.invariant-loop-row
invariant-loop-row g l = record {
  failures : (g.W.Sink.written l.sink).failed ≡ (g.W.Sink.written l.fn.sink).failed;
  so_far : SoFar (g.W.Sink.written l.fn.sink) (g.W.Sink.written l.sink) (l.fn.text.items ++ rows_text l.fn.ranks l.fn.keys) (l.text.items ++ rows_text l.ranks l.row-iterator);
}
