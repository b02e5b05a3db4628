use Rattle.std.proofs.Common.{ap, rules}
use Rattle.std.proofs.lemmas.Result.{IfOk-from_err}
use Rattle.matching.proofs.GapLoop.{more_space, more_other, all_read}
use Rattle.matching.proofs.normal.tidy_text.Goals as goal
use Rattle.matching.proofs.normal.tidy_text.Goals.{then-b-eq32, else-b-eq32+in_ok-put_gap+in_ok-push}

pub returns-in_err-put_gap : goal.returns-in_err-put_gap
returns-in_err-put_gap c = IfOk-from_err _ _ c.from_residual-in_err-put_gap.ensures.0

pub returns-in_err-push : goal.returns-in_err-push
returns-in_err-push c = IfOk-from_err _ _ c.from_residual-in_err-push.ensures.0

pub loop-b-preserved : goal.loop-b-preserved
loop-b-preserved c =
    elim c.if-b-eq32.branch [
      | then-b-eq32 w ↦ more_space _ c.loop-b.out.items _ c.loop-b.gap _ _ _ c.loop-b-test.true w.if-b-eq32.true (ap (λ v. v.items) w.out-is) w.gap-is c.loop-b.invariant
      | else-b-eq32+in_ok-put_gap+in_ok-push w ↦
          more_other _ c.loop-b.out.items _ c.loop-b.gap _ w.put_gap.new.out.items _ _ c.loop-b-test.true w.if-b-eq32.false (search rules) (search rules) w.gap-is c.loop-b.invariant
    ]

pub returns : goal.returns
returns c = all_read _ _ _ c.loop-b.gap c.loop-b.b-index c.loop-b-test.false c.loop-b.invariant
