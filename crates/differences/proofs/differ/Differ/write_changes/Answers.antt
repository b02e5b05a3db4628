use Rattle.differences.proofs.Walked.{wants_memory_of}
use Rattle.differences.proofs.differ.Differ.write_changes.Goals as goal

pub returns-in_err-some-clause-writes : goal.returns-in_err-some-clause-writes
returns-in_err-some-clause-writes g c = wants_memory_of c.from_residual.result c.from_residual.ensures.1 (g.W.Sink.written c.args.sink.now) _ _
