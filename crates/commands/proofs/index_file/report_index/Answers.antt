use Rattle.std.proofs.Common.{refl, sym, subst}
use Rattle.std.specs.Prelude.{OnOk, IfErr}
use Rattle.commands.specs.IndexFiles.{Said, ReportsFault}
use Rattle.commands.specs.declared.index_file.IndexFile.{IndexFile}
use Rattle.commands.specs.inner.IndexFiles.{IsKindOf, FailsToReport}
use Rattle.commands.proofs.index_file.report_index.Goals as goal

pub returns-in-Faulty-clause-reports : goal.returns-in-Faulty-clause-reports
returns-in-Faulty-clause-reports g c = λ said says.
    let is = subst (λ (file : IndexFile). IsKindOf file said) c.in-Faulty.is says in
    subst (λ (s : Said). OnOk c.report_index_fault.result (ReportsFault s (g.E.Sink.written c.args.err.now) (g.E.Sink.written c.report_index_fault.new.err))) (sym is) c.report_index_fault.ensures.reported

pub returns-in-Faulty-clause-err : goal.returns-in-Faulty-clause-err
returns-in-Faulty-clause-err g c = λ said says.
    let is = subst (λ (file : IndexFile). IsKindOf file said) c.in-Faulty.is says in
    subst (λ (s : Said). IfErr c.report_index_fault.result (FailsToReport s (g.E.Sink.written c.args.err.now) (g.E.Sink.written c.report_index_fault.new.err))) (sym is) c.report_index_fault.ensures.err

pub returns-in-Read-clause-reports : goal.returns-in-Read-clause-reports
returns-in-Read-clause-reports g c = λ said says.
    let is = (subst (λ (file : IndexFile). IsKindOf file said) c.in-Read.is says).1 in
    subst (λ (s : Said). ReportsFault s (g.E.Sink.written c.args.err.now) (g.E.Sink.written c.args.err.now)) (sym is) refl

pub returns-in-Missing-clause-reports : goal.returns-in-Missing-clause-reports
returns-in-Missing-clause-reports g c = λ said says.
    let is = subst (λ (file : IndexFile). IsKindOf file said) c.in-Missing.is says in
    subst (λ (s : Said). ReportsFault s (g.E.Sink.written c.args.err.now) (g.E.Sink.written c.args.err.now)) (sym is) refl
