use Rattle.commands.specs.Changes.{ChangeGoesThrough, ChangeStops}
use Rattle.commands.specs.Worlds.{World}
use Rattle.commands.proofs.Locked.{so_locked, no_lock, under, dry, wet}
use Rattle.commands.proofs.changes.change.Goals as goal

pub returns-clause-ends : goal.returns-clause-ends
returns-clause-ends g c = λ w.
    let task = c.args.task.now in
    let before : World = record w { files = g.F.Folder.files c.args.folder.now; lock = g.F.Folder.locking c.args.folder.now; input = g.S.Source.seen c.args.input.now; messages = g.E.Sink.written c.args.err.now } in
    let behind : World = record before { files = g.F.Folder.files c.load_and_run-2.new.folder; input = g.S.Source.seen c.load_and_run-2.new.input; messages = g.E.Sink.written c.load_and_run-2.new.err } in
    dry (ChangeGoesThrough task) (ChangeStops task) task before _ _ c.if-not-task.false
    (so_locked (ChangeGoesThrough task) (ChangeStops task) before behind _ _ c.load_and_run-2.ensures.locking (c.load_and_run-2.ensures.ends before))

pub returns-in-Err-clause-ends : goal.returns-in-Err-clause-ends
returns-in-Err-clause-ends g c = λ w.
    let task = c.args.task.now in
    let before : World = record w { files = g.F.Folder.files c.args.folder.now; lock = g.F.Folder.locking c.args.folder.now; input = g.S.Source.seen c.args.input.now; messages = g.E.Sink.written c.args.err.now } in
    wet (ChangeGoesThrough task) (ChangeStops task) task before _ _ c.if-not-task.true
    (no_lock (ChangeGoesThrough task) (ChangeStops task) task.db.now before _ _ _ c.in-Err.ensures.same_files c.in-Err.ensures.same_locking c.in-Err.ensures.err)

pub returns-in-Ok-clause-ends : goal.returns-in-Ok-clause-ends
returns-in-Ok-clause-ends g c = λ w.
    let task = c.args.task.now in
    let before : World = record w { files = g.F.Folder.files c.args.folder.now; lock = g.F.Folder.locking c.args.folder.now; input = g.S.Source.seen c.args.input.now; messages = g.E.Sink.written c.args.err.now } in
    let locked : World = record before { files = g.F.Folder.files c.lock.new.folder; lock = g.F.Folder.locking c.lock.new.folder } in
    let behind : World = record locked { files = g.F.Folder.files c.load_and_run.new.folder; input = g.S.Source.seen c.load_and_run.new.input; messages = g.E.Sink.written c.load_and_run.new.err } in
    wet (ChangeGoesThrough task) (ChangeStops task) task before _ _ c.if-not-task.true
    (under (ChangeGoesThrough task) (ChangeStops task) task.db.now before _ _ _ _ c.in-Ok.ensures.ok
    (so_locked (ChangeGoesThrough task) (ChangeStops task) locked behind _ _ c.load_and_run.ensures.locking (c.load_and_run.ensures.ends locked)))
