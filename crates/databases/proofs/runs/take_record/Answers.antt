use Rattle.std.proofs.Common.{refl, arith}
use Rattle.std.proofs.lemmas.Grind.{common_steps}
use Rattle.ldif_lines.specs.View.{view}
use Rattle.databases.specs.inner.Running.{standing}
use Rattle.databases.proofs.Pulled.{took_one}
use Rattle.databases.proofs.Running.{ends, fails, wants, steps}
use Rattle.databases.proofs.runs.take_record.Goals as goal

pub returns-in-Ok : goal.returns-in-Ok
returns-in-Ok g c = λ start h.
    steps g.S.Source.seen g.T.Target.count_edits c.args.mode c.args.go_on start (standing g.T.Target.conf g.T.Target.entries g.T.Target.edits g.W.Sink.written c.args.target.now c.args.reader.now c.args.sink.now) c.args.tally.now h
    (standing g.T.Target.conf g.T.Target.entries g.T.Target.edits g.W.Sink.written c.carry_out-carried_out.new.target c.reuse.new.self c.count.new.sink) (view c.in-Ok-Some.raw)
    (took_one g.S.Source.seen c.args.reader.now c.next.new.self c.reuse.new.self c.in-Ok-Some.raw _ c.in-Ok-Some.field-0-is
    c.in-Ok-Some.ensures.source.same_loan c.in-Ok-Some.ensures.told.still_good c.in-Ok-Some.ensures.told.going c.in-Ok-Some.ensures.source.gave c.in-Ok-Some.ensures.told.falls c.in-Ok-Some.ensures.told.gives c.in-Ok-Some.ensures.told.took
    c.reuse.ensures.same_loan c.reuse.ensures.source c.reuse.ensures.records c.reuse.ensures.bytes c.reuse.ensures.failed c.reuse.ensures.place)
    c.in-Ok.ensures.same_conf c.count.new.tally c.in-Ok.outcome c.in-Ok.ensures.outcome c.in-Ok.ensures.edits c.count.result c.count.ensures

pub returns-in-Err-carried_out : goal.returns-in-Err-carried_out
returns-in-Err-carried_out g c = λ start h.
    wants g.S.Source.seen g.T.Target.count_edits c.args.mode c.args.go_on start (standing g.T.Target.conf g.T.Target.entries g.T.Target.edits g.W.Sink.written c.args.target.now c.args.reader.now c.args.sink.now) c.args.tally.now h
    (standing g.T.Target.conf g.T.Target.entries g.T.Target.edits g.W.Sink.written c.carry_out-carried_out.new.target c.reuse.new.self c.args.sink.now) (view c.in-Ok-Some.raw)
    (took_one g.S.Source.seen c.args.reader.now c.next.new.self c.reuse.new.self c.in-Ok-Some.raw _ c.in-Ok-Some.field-0-is
    c.in-Ok-Some.ensures.source.same_loan c.in-Ok-Some.ensures.told.still_good c.in-Ok-Some.ensures.told.going c.in-Ok-Some.ensures.source.gave c.in-Ok-Some.ensures.told.falls c.in-Ok-Some.ensures.told.gives c.in-Ok-Some.ensures.told.took
    c.reuse.ensures.same_loan c.reuse.ensures.source c.reuse.ensures.records c.reuse.ensures.bytes c.reuse.ensures.failed c.reuse.ensures.place)
    c.in-Err-carried_out.ensures.same_conf refl c.in-Err-carried_out.ensures.err c.in-Err-carried_out.ensures.wanting

pub returns-in-Ok-None : goal.returns-in-Ok-None
returns-in-Ok-None g c = λ start h.
    ends g.S.Source.seen g.T.Target.count_edits c.args.mode c.args.go_on start (standing g.T.Target.conf g.T.Target.entries g.T.Target.edits g.W.Sink.written c.args.target.now c.args.reader.now c.args.sink.now) c.args.tally.now h
    c.next.new.self c.in-Ok-None.ensures.source.same_loan c.in-Ok-None.ensures.told.going c.in-Ok-None.ensures.source.gave (c.in-Ok-None.ensures.told.end (cc)).0

pub returns-in-Err : goal.returns-in-Err
returns-in-Err g c = λ start h.
    fails g.S.Source.seen g.T.Target.count_edits c.args.mode c.args.go_on start (standing g.T.Target.conf g.T.Target.entries g.T.Target.edits g.W.Sink.written c.args.target.now c.args.reader.now c.args.sink.now) c.args.tally.now h
    c.next.new.self c.in-Err.fault _ refl c.in-Err.ensures.fault.failed c.requires.going c.in-Err.ensures.source.same_loan c.in-Err.ensures.source.gave c.in-Err.ensures.fault.device c.in-Err.ensures.fault.memory c.in-Err.ensures.fault.breaks
    c.fault_of.result c.fault_of.ensures

pub count-requires-clause-room : goal.count-requires-clause-room
count-requires-clause-room g c = grind (arith, common_steps)
