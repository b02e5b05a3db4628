use Rattle.std.proofs.Common.{◌++◌}
use Rattle.databases.specs.inner.Dumps.{entry_text}
use Rattle.databases.proofs.Pieces.{wants_memory_on}
use Rattle.databases.proofs.dump.Printer.write_entry.Goals as goal

pub returns-in_err-put_record-clause-writes : goal.returns-in_err-put_record-clause-writes
returns-in_err-put_record-clause-writes g c = wants_memory_on c.from_residual.result c.from_residual.ensures.1 (g.W.Sink.written c.args.sink.now) (c.args.text.now.items ++ entry_text c.args.self.now.width c.args.self.now.tree.now.conf c.args.self.now.tree.now.entries c.args.selection.now (c.args.found.0.now, c.args.found.1.now)) _
