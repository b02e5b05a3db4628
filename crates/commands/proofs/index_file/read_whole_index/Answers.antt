use Rattle.std.proofs.Common.{◌∙◌}
use Rattle.std.proofs.lemmas.Result.{IfOk-weaker}
use Rattle.commands.proofs.IndexTold.{unread_so}
use Rattle.commands.proofs.Stopping.{of_faults}
use Rattle.commands.proofs.index_file.read_whole_index.Goals as goal

pub returns-clause-read : goal.returns-clause-read
returns-clause-read g c = IfOk-weaker c.read_whole_named.result _ _ (λ file reads. reads c.args.db.now (c.as_str.ensures.value ∙ c.in-Ok.ensures)) c.read_whole_named.ensures.read

pub returns-clause-err : goal.returns-clause-err
returns-clause-err g c = of_faults c.read_whole_named.result (λ f. unread_so c.args.db.now _ f (c.as_str.ensures.value ∙ c.in-Ok.ensures)) c.read_whole_named.ensures.err
