use Rattle.std.proofs.Common.{[], ◌∷◌}
use Rattle.std.proofs.lemmas.Result.{err_from_is_err_and}
use Rattle.commands.proofs.StoredFiles.{not_published, second_fails}
use Rattle.commands.proofs.storing.publish_database.Goals as goal

pub returns-in_err-publish-clause-err : goal.returns-in_err-publish-clause-err
returns-in_err-publish-clause-err g c = λ file index is_dump is_index.
    let p = err_from_is_err_and c.from_residual.result c.from_residual.ensures.1 in
    rw (p.1, p.2) (not_published [] file (index ∷ []) _ _ _ c.in_err-publish.ensures.same (c.in_err-publish.ensures.err file.name file.text is_dump))

pub returns-clause-err : goal.returns-clause-err
returns-clause-err g c = λ file index is_dump is_index.
    second_fails c.publish-2.result file index _ _ _ (c.in_ok-publish.ensures.ok file.name file.text is_dump) c.publish-2.ensures.same (c.publish-2.ensures.err index.name index.text is_index)
