use Rattle.std.proofs.Common.{inl, refl}
use Rattle.commands.specs.Worlds.{World}
use Rattle.commands.specs.Differences.{DiffStops}
use Rattle.commands.specs.declared.messages.Stop.TheVariants as stops
use Rattle.commands.proofs.Compared.{filter_fails, load_fails}
use Rattle.commands.proofs.Stopping.{stopped}
use Rattle.commands.proofs.ldifdiff.ldifdiff.Goals as goal

pub returns-in-Err-clause-ends : goal.returns-in-Err-clause-ends
returns-in-Err-clause-ends g c = λ w.
    let asked = c.args.asked.now in
    let start : World = record w { files = g.F.Folder.files c.args.folder.now; input = g.S.Source.seen c.args.input.now; output = g.O.Sink.written c.args.out.now; messages = g.E.Sink.written c.args.err.now } in
    stopped (DiffStops asked) start start (stops.Fault c.in-Err.fault) (inl (filter_fails asked start c.in-Err.fault c.in-Err.ensures.fault, record { stored = refl; world = refl })) refl

pub returns-clause-ends : goal.returns-clause-ends
returns-clause-ends g c = λ w.
    let asked = c.args.asked.now in
    let start : World = record w { files = g.F.Folder.files c.args.folder.now; input = g.S.Source.seen c.args.input.now; output = g.O.Sink.written c.args.out.now; messages = g.E.Sink.written c.args.err.now } in
    stopped (DiffStops asked) start start (stops.Fault c.in-Err-load_database.fault) (inl (load_fails asked start c.in-Err-load_database.fault c.in-Err-load_database.ensures.err, record { stored = refl; world = refl })) refl
