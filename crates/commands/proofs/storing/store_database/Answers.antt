use Rattle.std.proofs.Common.{ℕ, List, [], ◌∷◌, subst, ◌∙◌}
use Rattle.std.proofs.lemmas.Result.{err_from_is_err_and}
use Rattle.databases.specs.Runs.{dump}
use Rattle.databases.specs.IndexTexts.{index_text}
use Rattle.commands.specs.Stored.{data_file, index_file}
use Rattle.commands.proofs.StoredFiles.{either_named, memory_fails}
use Rattle.commands.proofs.storing.store_database.Goals as goal

pub returns-in_err-data_path-clause-err : goal.returns-in_err-data_path-clause-err
returns-in_err-data_path-clause-err g c =
    let p = err_from_is_err_and c.from_residual.result c.from_residual.ensures.1 in
    rw (p.1, p.2) (memory_fails (data_file c.args.db.now c.args.database.now.conf c.args.database.now.entries) (index_file c.args.db.now c.args.database.now.conf c.args.database.now.entries ∷ []) _ _ tt)

pub returns-in_err-index_path-clause-err : goal.returns-in_err-index_path-clause-err
returns-in_err-index_path-clause-err g c =
    let p = err_from_is_err_and c.from_residual-in_err-index_path.result c.from_residual-in_err-index_path.ensures.1 in
    rw (p.1, p.2) (memory_fails (data_file c.args.db.now c.args.database.now.conf c.args.database.now.entries) (index_file c.args.db.now c.args.database.now.conf c.args.database.now.entries ∷ []) _ _ tt)

pub returns-in_err-drafts-clause-err : goal.returns-in_err-drafts-clause-err
returns-in_err-drafts-clause-err g c =
    let p = err_from_is_err_and c.from_residual-in_err-drafts.result c.from_residual-in_err-drafts.ensures.1 in
    rw (p.1, p.2) (either_named (data_file c.args.db.now c.args.database.now.conf c.args.database.now.entries) (index_file c.args.db.now c.args.database.now.conf c.args.database.now.entries) _ _ _ _ (c.as_str-data_name.ensures.value ∙ c.in_ok-data_path.ensures) (c.as_str-index_name.ensures.value ∙ c.in_ok-index_path.ensures) c.in_err-drafts.ensures.err)

pub returns-clause-ok : goal.returns-clause-ok
returns-clause-ok g c =
    c.in_ok-publish_database.ensures.ok (data_file c.args.db.now c.args.database.now.conf c.args.database.now.entries) (index_file c.args.db.now c.args.database.now.conf c.args.database.now.entries)
    (subst (λ (n : List ℕ). g.F.Folder.is_draft c.in_ok-drafts.drafts.dump n (dump c.args.database.now.conf c.args.database.now.entries)) (c.as_str-data_name.ensures.value ∙ c.in_ok-data_path.ensures) c.in_ok-drafts.ensures.dump)
    (subst (λ (n : List ℕ). g.F.Folder.is_draft c.in_ok-drafts.drafts.index n (index_text c.args.database.now.conf c.args.database.now.entries)) (c.as_str-index_name.ensures.value ∙ c.in_ok-index_path.ensures) c.in_ok-drafts.ensures.index)
