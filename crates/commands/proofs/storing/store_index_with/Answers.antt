use Rattle.std.proofs.Common.{ℕ, List, [], subst, IfErr, ◌∙◌}
use Rattle.commands.specs.Failures.{FailsToWrite}
use Rattle.commands.specs.Stored.{index_file}
use Rattle.commands.proofs.StoredFiles.{first_fails, memory_fails}
use Rattle.commands.proofs.storing.store_index_with.Goals as goal

pub returns-in-Ok-clause-err : goal.returns-in-Ok-clause-err
returns-in-Ok-clause-err g c =
    first_fails c.store.result (index_file c.args.db.now c.args.database.now.conf c.args.database.now.entries) [] _ _ (subst (λ (n : List ℕ). IfErr c.store.result (FailsToWrite n)) (c.as_str.ensures.value ∙ c.in-Ok.ensures) c.store.ensures.err) c.store.ensures.same

pub returns-in-Err-clause-err : goal.returns-in-Err-clause-err
returns-in-Err-clause-err g c = memory_fails (index_file c.args.db.now c.args.database.now.conf c.args.database.now.entries) [] _ _ tt
