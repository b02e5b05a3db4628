use Rattle.std.proofs.Common.{List, sym, subst}
use Rattle.checks.specs.declared.entry_value.EntryValue.{EntryValue}
use Rattle.checks.specs.inner.Reports.{AreReportable}
use Rattle.checks.proofs.Reportable.{dangling_reportable}
use Rattle.checks.proofs.reports.report_dangling.Goals as goal

pub put_dangling-requires : goal.put_dangling-requires
put_dangling-requires c =
    let conf = c.args.lent.conf.now in
    let d = c.args.lent.tree.now.entries in
    subst (λ (vs : List EntryValue). AreReportable conf d vs) (sym c.as_slice.ensures.value) (dangling_reportable conf d c.args.named.now _ c.in_ok-found.ensures.told)
