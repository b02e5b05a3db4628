use Rattle.commands.specs.Worlds.{World}
use Rattle.commands.proofs.Known.{ended_known}
use Rattle.commands.proofs.changes.load_and_run.Goals as goal

pub returns-in-Ok-clause-ends : goal.returns-in-Ok-clause-ends
returns-in-Ok-clause-ends g c = λ w.
    let before : World = record w { files = g.F.Folder.files c.args.folder.now; input = g.S.Source.seen c.args.input.now; messages = g.E.Sink.written c.args.err.now } in
    let behind : World = record w { files = g.F.Folder.files c.run_and_store-ended.new.folder; input = g.S.Source.seen c.run_and_store-ended.new.input; messages = g.E.Sink.written c.run_and_store-ended.new.err } in
    ended_known c.args.task.now before behind c.run_and_store-ended.result (c.run_and_store-ended.ensures.ends w)
