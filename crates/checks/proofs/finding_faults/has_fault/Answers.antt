use Rattle.std.proofs.Common.{[], IfOk, sym, subst}
use Rattle.checks.specs.ConfFaults.{AreFirstFaults}
use Rattle.checks.proofs.FirstFaults.{has_none, has_more}
use Rattle.checks.proofs.finding_faults.has_fault.Goals as goal
use Rattle.checks.proofs.finding_faults.has_fault.Goals.{in-Ok, in-Err-Line, in-Err-OutOfMemory}

pub returns : goal.returns
returns c =
    let text = c.args.text.now in
    elim c.match-read_conf.branch [
      | in-Ok w ↦ subst (λ r. IfOk r (AreFirstFaults 0 text [])) (sym w.result-is) (has_none text _ w.in-Ok.ensures)
      | in-Err-Line w ↦ subst (λ r. IfOk r (AreFirstFaults 0 text [])) (sym w.result-is) (has_more text _ _ _ w.in-Err-Line.field-0-is w.in-Err-Line.ensures)
      | in-Err-OutOfMemory w ↦ subst (λ r. IfOk r (AreFirstFaults 0 text [])) (sym w.result-is) tt
    ]
