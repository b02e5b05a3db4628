use Rattle.std.proofs.Common.{sym, subst}
use Rattle.commands.specs.Endings.{ReportsStop}
use Rattle.commands.specs.declared.messages.Stop.{Stop}
use Rattle.commands.proofs.messages.report_stop.Goals as goal

pub returns-in-Fault : goal.returns-in-Fault
returns-in-Fault g c = subst (λ (why : Stop). ReportsStop why (g.E.Sink.written c.args.err.now) (g.E.Sink.written c.report_fault.new.err) c.report_fault.result) (sym c.in-Fault.is) c.report_fault.ensures.reported
