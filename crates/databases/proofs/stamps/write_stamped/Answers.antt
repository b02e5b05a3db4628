use Rattle.std.proofs.Common.{[]}
use Rattle.std.proofs.lemmas.Result.{IfOk-from_err}
use Rattle.databases.specs.Runs.{dump_to}
use Rattle.databases.proofs.stamps.write_stamped.Goals as goal

pub returns-in_err-write_dump-clause-stamp : goal.returns-in_err-write_dump-clause-stamp
returns-in_err-write_dump-clause-stamp g c = IfOk-from_err _ _ c.from_residual.ensures.0

pub returns-clause-stamp : goal.returns-clause-stamp
returns-clause-stamp g c = c.finalize.ensures (dump_to c.args.printer.now.width c.args.printer.now.tree.now.conf c.args.printer.now.tree.now.entries) (c.in_ok-write_dump.ensures.heard [] c.new-hasher.ensures)
