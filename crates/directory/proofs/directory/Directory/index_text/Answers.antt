use Rattle.databases.specs.IndexTexts.{index_text}
use Rattle.databases.proofs.Pieces.{wants_memory}
use Rattle.directory.proofs.directory.Directory.index_text.Goals as goal

pub returns-in_err-stamp : goal.returns-in_err-stamp
returns-in_err-stamp g c = wants_memory c.from_residual.result c.from_residual.ensures.1 (g.W.Sink.written c.args.sink.now) (index_text c.args.self.now.conf c.args.self.now.entries)
