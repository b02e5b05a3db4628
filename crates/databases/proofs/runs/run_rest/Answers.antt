use Rattle.ldif_lines.specs.Reader.{bytes_left}
use Rattle.databases.specs.inner.Running.{standing}
use Rattle.databases.proofs.Running.{begins, goes_on, at_end, stopped_by}
use Rattle.databases.proofs.runs.run_rest.Goals as goal

pub records-init : goal.records-init
records-init g c = begins g.S.Source.seen g.T.Target.count_edits c.args.mode c.args.go_on (standing g.T.Target.conf g.T.Target.entries g.T.Target.edits g.W.Sink.written c.args.target.now c.args.reader.now c.args.sink.now) c.requires.going c.requires.bound

pub records-preserved : goal.records-preserved
records-preserved g c =
    (goes_on g.S.Source.seen g.T.Target.count_edits c.args.mode c.args.go_on (bytes_left g.S.Source.seen c.records.reader) (standing g.T.Target.conf g.T.Target.entries g.T.Target.edits g.W.Sink.written c.args.target.now c.args.reader.now c.args.sink.now)
    (standing g.T.Target.conf g.T.Target.entries g.T.Target.edits g.W.Sink.written c.take_record.new.target c.take_record.new.reader c.take_record.new.sink) c.take_record.new.tally
    c.in-Ok-GoesOn.field-0 (c.in-Ok-GoesOn.ensures _ c.records.invariant) c.in-Ok-GoesOn.field-0-is).0

pub records-smaller : goal.records-smaller
records-smaller g c =
    (goes_on g.S.Source.seen g.T.Target.count_edits c.args.mode c.args.go_on (bytes_left g.S.Source.seen c.records.reader) (standing g.T.Target.conf g.T.Target.entries g.T.Target.edits g.W.Sink.written c.args.target.now c.args.reader.now c.args.sink.now)
    (standing g.T.Target.conf g.T.Target.entries g.T.Target.edits g.W.Sink.written c.take_record.new.target c.take_record.new.reader c.take_record.new.sink) c.take_record.new.tally
    c.in-Ok-GoesOn.field-0 (c.in-Ok-GoesOn.ensures _ c.records.invariant) c.in-Ok-GoesOn.field-0-is).1

pub returns-in-Ok-AtEnd : goal.returns-in-Ok-AtEnd
returns-in-Ok-AtEnd g c =
    let h = at_end g.S.Source.seen g.T.Target.count_edits c.args.mode c.args.go_on (bytes_left g.S.Source.seen c.records.reader) (standing g.T.Target.conf g.T.Target.entries g.T.Target.edits g.W.Sink.written c.args.target.now c.args.reader.now c.args.sink.now)
    (standing g.T.Target.conf g.T.Target.entries g.T.Target.edits g.W.Sink.written c.take_record.new.target c.take_record.new.reader c.take_record.new.sink) c.take_record.new.tally
    c.in-Ok-AtEnd.field-0 (c.in-Ok-AtEnd.ensures _ c.records.invariant) c.in-Ok-AtEnd.field-0-is in
    record { run = h.0; ending = h.1 }

pub returns-in-Ok-StoppedBy : goal.returns-in-Ok-StoppedBy
returns-in-Ok-StoppedBy g c =
    let h = stopped_by g.S.Source.seen g.T.Target.count_edits c.args.mode c.args.go_on (bytes_left g.S.Source.seen c.records.reader) (standing g.T.Target.conf g.T.Target.entries g.T.Target.edits g.W.Sink.written c.args.target.now c.args.reader.now c.args.sink.now)
    (standing g.T.Target.conf g.T.Target.entries g.T.Target.edits g.W.Sink.written c.take_record.new.target c.take_record.new.reader c.take_record.new.sink) c.take_record.new.tally
    c.in-Ok-StoppedBy.field-0 (c.in-Ok-StoppedBy.ensures _ c.records.invariant) _ c.in-Ok-StoppedBy.field-0-is in
    record { run = h.0; ending = h.1 }

pub returns-in-Err : goal.returns-in-Err
returns-in-Err g c = record { run = c.in-Err.ensures _ c.records.invariant; ending = tt }
