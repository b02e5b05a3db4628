use Rattle.std.proofs.Common.{◌≡◌, ◌++◌, ◌∙◌, Bool, List, ℕ, OnOk, codes, sym, subst}
use Rattle.checks.specs.Reports.{report}
use Rattle.checks.specs.ConfFaults.{more_report}
use Rattle.checks.proofs.conf_faults.put_more.Goals as goal

pub returns : goal.returns
returns c =
    subst (λ (b : Bool). OnOk c.put_report.result (c.put_report.new.out.items ≡ c.args.out.now.items ++ more_report b)) (sym c.if-not-has_more.false)
    (subst (λ (what : List ℕ). OnOk c.put_report.result (c.put_report.new.out.items ≡ c.args.out.now.items ++ report (codes "faulty") (codes "dir.conf") what))
    (c.as_bytes.ensures.value ∙ c.in_ok-what.ensures) c.put_report.ensures)
