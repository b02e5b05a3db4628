use Rattle.std.proofs.Common.{◌≡◌, ◌++◌, ◌∙◌, List, ℕ, OnOk, codes, subst}
use Rattle.checks.specs.Reports.{report}
use Rattle.checks.proofs.conf_faults.put_fault.Goals as goal

pub returns : goal.returns
returns c =
    subst (λ (what : List ℕ). OnOk c.put_report.result (c.put_report.new.out.items ≡ c.args.out.now.items ++ report (codes "faulty") (codes "dir.conf") what))
    (c.as_bytes.ensures.value ∙ c.in_ok-what.ensures) c.put_report.ensures
