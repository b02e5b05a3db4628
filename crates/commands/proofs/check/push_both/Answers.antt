use Rattle.commands.proofs.Checked.{after_both}
use Rattle.commands.proofs.check.push_both.Goals as goal

pub returns-clause-device : goal.returns-clause-device
returns-clause-device g c =
    after_both (g.O.Sink.written c.args.out.now) (g.O.Sink.written c.push_all.new.sink) (g.O.Sink.written c.push_all-2.new.sink) c.args.first.now c.args.second.now c.push_all-2.result
    c.in_ok-push_all.ensures.ok c.push_all-2.ensures.device
