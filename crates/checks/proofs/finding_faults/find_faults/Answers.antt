use Rattle.std.proofs.lemmas.Result.{IfOk-weaker}
use Rattle.checks.proofs.finding_faults.find_faults.Goals as goal

pub returns-clause-counted : goal.returns-clause-counted
returns-clause-counted c =
    IfOk-weaker c.first_faults.result _ _ (λ f are. c.left_out_faults_are_counted.ensures.all c.args.text.now f.faults.items f.has_more are) c.first_faults.ensures
