use Rattle.std.proofs.Common.{refl, sym, ap, subst, ◌∙◌}
use Rattle.std.proofs.lemmas.Result.{err_from_is_err_and}
use Rattle.filter.specs.Made.{Made}
use Rattle.commands.specs.Prints.{SearchStops}
use Rattle.commands.specs.inner.IndexFiles.{Keeps}
use Rattle.commands.proofs.IndexTold.{kind_kept}
use Rattle.databases.specs.Walks.{seen}
use Rattle.commands.proofs.Ends.{hits_printed, hits_begun, none_found}
use Rattle.commands.proofs.Searched.{is_said, unreported, no_base, found_all, found_more, not_found}
use Rattle.commands.proofs.Stopping.{stopped}
use Rattle.commands.proofs.searching.search_by.Goals as goal

pub find-requires : goal.find-requires
find-requires g c = ap (λ (m : Made). m.conf) c.in_ok-query.ensures.found.filter ∙ c.requires.prepared

pub returns-in_err-report_index-clause-ends : goal.returns-in_err-report_index-clause-ends
returns-in_err-report_index-clause-ends g c =
    let p = err_from_is_err_and c.from_residual.result c.from_residual.ensures.1 in
    rw (p.1, p.2) (λ w h. stopped (SearchStops c.args.asked.now) _ _ _ (unreported c.args.asked.now (record w { output = g.O.Sink.written c.args.out.now; messages = g.E.Sink.written c.args.err.now }) h.index.said _ _
    (is_said c.args.asked.now w c.args.filter c.args.database.now c.args.file.now h) (c.in_err-report_index.ensures.err h.index.said (kind_kept c.args.filter c.args.file.now h.index.said h.index.kept.says))) refl)

pub returns-in_err-query-clause-ends : goal.returns-in_err-query-clause-ends
returns-in_err-query-clause-ends g c =
    let p = err_from_is_err_and c.from_residual-in_err-query.result c.from_residual-in_err-query.ensures.1 in
    rw (p.1, p.2) (λ w h. stopped (SearchStops c.args.asked.now) _ _ _
    (no_base c.args.asked.now (record w { output = g.O.Sink.written c.args.out.now; messages = g.E.Sink.written c.args.err.now }) c.args.filter c.args.database.now c.args.file.now h _
    (c.in_ok-report_index.ensures.reports h.index.said (kind_kept c.args.filter c.args.file.now h.index.said h.index.kept.says)) _ c.conf.ensures _ c.in_err-query.ensures.fault) refl)

pub returns-in_err-hits-clause-ends : goal.returns-in_err-hits-clause-ends
returns-in_err-hits-clause-ends g c =
    let p = err_from_is_err_and c.from_residual-in_err-hits.result c.from_residual-in_err-hits.ensures.1 in
    rw (p.1, p.2) (λ w h. stopped (SearchStops c.args.asked.now) _ _ _
    (not_found c.args.asked.now (record w { output = g.O.Sink.written c.args.out.now; messages = g.E.Sink.written c.args.err.now }) c.args.filter c.args.database.now c.args.file.now h _
    (c.in_ok-report_index.ensures.reports h.index.said (kind_kept c.args.filter c.args.file.now h.index.said h.index.kept.says)) c.in_ok-query.query _ c.conf.ensures c.in_ok-query.ensures.found
    _ _ (none_found c.in_ok-query.query h.index.said c.args.database.now _ _ c.in_err-hits.ensures.fails)) refl)

pub returns-in-Ok-false-clause-ends : goal.returns-in-Ok-false-clause-ends
returns-in-Ok-false-clause-ends g c = λ w h.
    found_all c.args.asked.now (record w { output = g.O.Sink.written c.args.out.now; messages = g.E.Sink.written c.args.err.now }) c.args.filter c.args.database.now c.args.file.now h _
    (c.in_ok-report_index.ensures.reports h.index.said (kind_kept c.args.filter c.args.file.now h.index.said h.index.kept.says)) c.in_ok-query.query _ c.conf.ensures c.in_ok-query.ensures.found
    _ _ c.in-Ok-false.field-0-test
    (hits_printed seen c.in_ok-query.query h.index.said c.args.database.now c.in_ok-hits.hits.to_come
    (c.in_ok-hits.ensures.found h.index.said (subst (λ (f : Made). Keeps c.args.database.now f c.args.file.now h.index.said) (sym c.in_ok-query.ensures.found.filter) h.index.kept))
    c.in-Ok-false.field-0 _ _ c.in-Ok-false.ensures)

pub returns-in-Ok-true-clause-ends : goal.returns-in-Ok-true-clause-ends
returns-in-Ok-true-clause-ends g c = λ w h.
    found_more c.args.asked.now (record w { output = g.O.Sink.written c.args.out.now; messages = g.E.Sink.written c.args.err.now }) c.args.filter c.args.database.now c.args.file.now h _
    (c.in_ok-report_index.ensures.reports h.index.said (kind_kept c.args.filter c.args.file.now h.index.said h.index.kept.says)) c.in_ok-query.query _ c.conf.ensures c.in_ok-query.ensures.found
    _ _ _ _ c.in-Ok-true.field-0-test
    (hits_printed seen c.in_ok-query.query h.index.said c.args.database.now c.in_ok-hits.hits.to_come
    (c.in_ok-hits.ensures.found h.index.said (subst (λ (f : Made). Keeps c.args.database.now f c.args.file.now h.index.said) (sym c.in_ok-query.ensures.found.filter) h.index.kept))
    c.in-Ok-true.field-0 _ _ c.in-Ok-true.ensures)
    c.report_past_limit-status.ensures

pub returns-clause-ends : goal.returns-clause-ends
returns-clause-ends g c = λ w h.
    stopped (SearchStops c.args.asked.now) _ _ _
    (not_found c.args.asked.now (record w { output = g.O.Sink.written c.args.out.now; messages = g.E.Sink.written c.args.err.now }) c.args.filter c.args.database.now c.args.file.now h _
    (c.in_ok-report_index.ensures.reports h.index.said (kind_kept c.args.filter c.args.file.now h.index.said h.index.kept.says)) c.in_ok-query.query _ c.conf.ensures c.in_ok-query.ensures.found
    _ c.of_output.result (hits_begun seen c.in_ok-query.query h.index.said c.args.database.now c.in_ok-hits.hits.to_come
    (c.in_ok-hits.ensures.found h.index.said (subst (λ (f : Made). Keeps c.args.database.now f c.args.file.now h.index.said) (sym c.in_ok-query.ensures.found.filter) h.index.kept))
    c.in-Err.fault c.of_output.result _ _ c.of_output.ensures c.in-Err.ensures)) refl
