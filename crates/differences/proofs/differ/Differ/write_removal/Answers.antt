use Rattle.databases.proofs.Pieces.{wants_memory_on}
use Rattle.differences.proofs.differ.Differ.write_removal.Goals as goal

pub returns-in_err-name : goal.returns-in_err-name
returns-in_err-name g c = wants_memory_on c.from_residual.result c.from_residual.ensures.1 (g.W.Sink.written c.args.sink.now) _ _

pub returns-in_err-put_delete : goal.returns-in_err-put_delete
returns-in_err-put_delete g c = wants_memory_on c.from_residual-in_err-put_delete.result c.from_residual-in_err-put_delete.ensures.1 (g.W.Sink.written c.args.sink.now) _ _
