use Rattle.commands.specs.Commands.{RequestGoesThrough, RequestStops, writes_in}
use Rattle.commands.specs.Worlds.{World}
use Rattle.commands.proofs.Locked.{goes_through, reports_why}
use Rattle.commands.proofs.dispatch.end_command.Goals as goal

pub returns-in-Ok-clause-ends : goal.returns-in-Ok-clause-ends
returns-in-Ok-clause-ends g c =
    let asked = c.args.asked in
    let w : World = record { files = g.F.Folder.files c.args.folder.now; lock = g.F.Folder.locking c.args.folder.now; input = g.S.Source.seen c.args.input.now; output = g.O.Sink.written c.args.out.now; messages = g.E.Sink.written c.args.err.now } in
    let w' : World = record { files = g.F.Folder.files c.carry_out.new.folder; lock = g.F.Folder.locking c.carry_out.new.folder; input = g.S.Source.seen c.carry_out.new.input; output = g.O.Sink.written c.carry_out.new.out; messages = g.E.Sink.written c.carry_out.new.err } in
    record {
      status = c.in-Ok.status;
      ends = goes_through (RequestGoesThrough asked) (RequestStops asked) (writes_in asked) w w' c.in-Ok.status c.in-Ok.ensures.ends;
      number_is = c.number.ensures.value;
    }

pub returns-in-Err-clause-ends : goal.returns-in-Err-clause-ends
returns-in-Err-clause-ends g c =
    let asked = c.args.asked in
    let w : World = record { files = g.F.Folder.files c.args.folder.now; lock = g.F.Folder.locking c.args.folder.now; input = g.S.Source.seen c.args.input.now; output = g.O.Sink.written c.args.out.now; messages = g.E.Sink.written c.args.err.now } in
    let mid : World = record { files = g.F.Folder.files c.carry_out.new.folder; lock = g.F.Folder.locking c.carry_out.new.folder; input = g.S.Source.seen c.carry_out.new.input; output = g.O.Sink.written c.carry_out.new.out; messages = g.E.Sink.written c.carry_out.new.err } in
    record {
      status = c.report_stop-status.result;
      ends = reports_why (RequestGoesThrough asked) (RequestStops asked) (writes_in asked) w mid (g.E.Sink.written c.report_stop-status.new.err) c.in-Err.stop c.report_stop-status.result c.in-Err.ensures.ends c.report_stop-status.ensures;
      number_is = c.number-in-Err.ensures.value;
    }
