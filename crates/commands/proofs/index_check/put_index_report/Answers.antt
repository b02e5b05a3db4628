use Rattle.std.proofs.Common.{◌≡◌, ◌++◌, ◌∙◌, List, ℕ, Option, OnOk, ap, codes, subst}
use Rattle.checks.specs.IndexDifferences.{difference_of}
use Rattle.checks.specs.Reports.{report}
use Rattle.stored_index.specs.declared.fault.IndexFaultKind.{IndexFaultKind}
use Rattle.commands.specs.Checks.{line_of_difference, index_what}
use Rattle.commands.proofs.index_check.put_index_report.Goals as goal

pub returns : goal.returns
returns c =
    let text = c.args.text.now in
    let own = c.args.own.now in
    subst (λ (what : List ℕ). OnOk c.put_report.result (c.put_report.new.out.items ≡ c.args.out.now.items ++ report (codes "faulty") (codes "index.txt") what))
    (c.as_slice.ensures.value ∙ c.in_ok-what.ensures ∙ ap (λ (fault : Option IndexFaultKind). index_what fault (line_of_difference text own) (difference_of text own)) c.in_ok-fault.ensures)
    c.put_report.ensures
