use Rattle.std.proofs.Common.{◌≡◌, ◌++◌, ◌∙◌, List, ℕ, OnOk, codes, subst}
use Rattle.checks.specs.Reports.{report}
use Rattle.checks.proofs.warnings.put_warning.Goals as goal

pub returns : goal.returns
returns c =
    subst (λ (what : List ℕ). OnOk c.put_report.result (c.put_report.new.out.items ≡ c.args.out.now.items ++ report (codes "warning") (codes "dir.conf") what))
    (c.as_slice.ensures.value ∙ c.in_ok-text.ensures) c.put_report.ensures
