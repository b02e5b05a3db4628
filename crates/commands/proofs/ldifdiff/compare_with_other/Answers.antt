use Rattle.std.proofs.Common.{inl, inr, refl, subst}
use Rattle.std.specs.Option.{option_copied}
use Rattle.schema.specs.Conf.{Conf}
use Rattle.commands.specs.Worlds.{World}
use Rattle.commands.specs.Differences.{LoadsOther, LacksOther, DiffStops}
use Rattle.commands.specs.declared.messages.Stop.TheVariants as stops
use Rattle.commands.proofs.Compared.{has_ended}
use Rattle.commands.proofs.Stopping.{stopped}
use Rattle.commands.proofs.ldifdiff.compare_with_other.Goals as goal

pub returns-in-Ok-clause-ends : goal.returns-in-Ok-clause-ends
returns-in-Ok-clause-ends g c = λ w.
    let asked = c.args.asked.now in
    let start : World = record w { files = g.F.Folder.files c.args.folder.now; input = g.S.Source.seen c.args.input.now; output = g.O.Sink.written c.args.out.now; messages = g.E.Sink.written c.args.err.now } in
    let mid : World = record start { input = g.S.Source.seen c.load_other.new.input } in
    let end : World = record mid { output = g.O.Sink.written c.compare-ended.new.out; messages = g.E.Sink.written c.compare-ended.new.err } in
    has_ended asked start mid end c.args.database.now.conf c.args.database.now.entries c.in-Ok.other.entries c.requires.loaded
    (subst (λ (k : Conf). LoadsOther (option_copied asked.file) k c.in-Ok.other.entries start mid) c.conf.ensures (c.in-Ok.ensures.loads start))
    refl c.compare-ended.result (c.compare-ended.ensures.ends mid)

pub returns-in-Err-clause-ends : goal.returns-in-Err-clause-ends
returns-in-Err-clause-ends g c = λ w.
    let asked = c.args.asked.now in
    let start : World = record w { files = g.F.Folder.files c.args.folder.now; input = g.S.Source.seen c.args.input.now; output = g.O.Sink.written c.args.out.now; messages = g.E.Sink.written c.args.err.now } in
    let mid : World = record start { input = g.S.Source.seen c.load_other.new.input } in
    stopped (DiffStops asked) start mid (stops.Fault c.in-Err.fault)
    (inr (inl (record {
      conf = c.args.database.now.conf;
      before = c.args.database.now.entries;
      loaded = c.requires.loaded;
      fault = c.in-Err.fault;
      fault_is = refl;
      lacks = subst (λ (k : Conf). LacksOther (option_copied asked.file) k c.in-Err.fault start mid) c.conf.ensures (c.in-Err.ensures.lacks start);
      stored = refl;
    }))) refl
