use Rattle.std.proofs.Common.{◌++◌}
use Rattle.directory.specs.inner.IndexRows.{row_text}
use Rattle.databases.proofs.Pieces.{wants_memory_on}
use Rattle.directory.proofs.index_texts.write_row.Goals as goal

pub returns-in_err-put_row : goal.returns-in_err-put_row
returns-in_err-put_row g c = wants_memory_on c.from_residual.result c.from_residual.ensures.1 (g.W.Sink.written c.args.sink.now) (c.args.text.now.items ++ row_text c.args.ranks.now (c.args.row.0.now, c.args.row.1.now.members)) _
