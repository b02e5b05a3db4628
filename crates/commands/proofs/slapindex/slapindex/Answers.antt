use Rattle.commands.specs.Indexing.{IndexGoesThrough, IndexStops}
use Rattle.commands.specs.Worlds.{World}
use Rattle.commands.proofs.Locked.{so_locked, no_lock, under}
use Rattle.commands.proofs.slapindex.slapindex.Goals as goal

pub returns-in-Ok : goal.returns-in-Ok
returns-in-Ok g c = λ w.
    let asked = c.args.asked.now in
    let before : World = record w { files = g.F.Folder.files c.args.folder.now; lock = g.F.Folder.locking c.args.folder.now } in
    let locked : World = record before { files = g.F.Folder.files c.lock.new.folder; lock = g.F.Folder.locking c.lock.new.folder } in
    let behind : World = record locked { files = g.F.Folder.files c.make_index.new.folder } in
    under (IndexGoesThrough asked) (IndexStops asked) asked.db.now before _ _ _ _ c.in-Ok.ensures.ok
    (so_locked (IndexGoesThrough asked) (IndexStops asked) locked behind _ _ c.make_index.ensures.locking (c.make_index.ensures.ends locked))

pub returns-in-Err : goal.returns-in-Err
returns-in-Err g c = λ w.
    let asked = c.args.asked.now in
    let before : World = record w { files = g.F.Folder.files c.args.folder.now; lock = g.F.Folder.locking c.args.folder.now } in
    no_lock (IndexGoesThrough asked) (IndexStops asked) asked.db.now before _ _ _ c.in-Err.ensures.same_files c.in-Err.ensures.same_locking c.in-Err.ensures.err
