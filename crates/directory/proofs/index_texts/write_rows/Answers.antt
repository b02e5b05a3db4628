use Rattle.std.proofs.Common.{ℕ, List, ◌++◌, ap, ◌∙◌}
use Rattle.std.proofs.lemmas.Result.{err_from_is_err_and}
use Rattle.index_text.specs.KeySets.{Row}
use Rattle.directory.specs.inner.IndexRows.{row_text, rows_text}
use Rattle.databases.proofs.WrittenLines.{further, stopped}
use Rattle.directory.proofs.index_texts.write_rows.Goals as goal

pub loop-row-preserved : goal.loop-row-preserved
loop-row-preserved g c =
    let ranks : List ℕ = c.args.ranks.now in
    let row : Row = (c.in-Some.row.0.now, c.in-Some.row.1.now.members) in
    let before = c.loop-row.invariant in
    record {
      failures = c.in_ok-write_row.ensures.written.failed ∙ before.failures;
      so_far = further (g.W.Sink.written c.args.sink.now) (g.W.Sink.written c.loop-row.sink) (g.W.Sink.written c.write_row.new.sink)
          (c.args.text.now.items ++ rows_text ranks c.args.keys) c.loop-row.text.items (rows_text ranks c.loop-row.row-iterator) (row_text ranks row) (rows_text ranks c.next.new.self)
          before.so_far (ap (rows_text ranks) c.in-Some.ensures.steps) c.write_row.new.text.items c.in_ok-write_row.ensures;
    }

pub returns-in_err-write_row : goal.returns-in_err-write_row
returns-in_err-write_row g c =
    let p = err_from_is_err_and c.from_residual.result c.from_residual.ensures.1 in
    let ranks : List ℕ = c.args.ranks.now in
    let row : Row = (c.in-Some.row.0.now, c.in-Some.row.1.now.members) in
    rw (p.1, p.2) (stopped (g.W.Sink.written c.args.sink.now) (g.W.Sink.written c.loop-row.sink) (g.W.Sink.written c.write_row.new.sink)
    (c.args.text.now.items ++ rows_text ranks c.args.keys) c.loop-row.text.items (rows_text ranks c.loop-row.row-iterator) (row_text ranks row) (rows_text ranks c.next.new.self)
    c.loop-row.invariant.so_far (ap (rows_text ranks) c.in-Some.ensures.steps) c.in_err-write_row.field-0.0 c.in_err-write_row.ensures)
