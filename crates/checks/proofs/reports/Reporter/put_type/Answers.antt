use Rattle.std.proofs.Common.{List, sym, subst}
use Rattle.checks.specs.declared.shared_value.SharedValue.{SharedValue}
use Rattle.checks.specs.inner.Reports.{EachIsThere}
use Rattle.checks.proofs.Reportable.{shared_there}
use Rattle.checks.proofs.reports.Reporter.put_type.Goals as goal

pub put_shared-requires-clause-there : goal.put_shared-requires-clause-there
put_shared-requires-clause-there c =
    let d = c.args.self.now.tree.now.entries in
    subst (λ (rs : List SharedValue). EachIsThere d rs) (sym c.as_slice.ensures.value) (shared_there _ d c.args.t _ c.in_ok-found.ensures.told)
