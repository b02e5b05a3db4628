use Rattle.std.proofs.Common.{Some, sym, subst}
use Rattle.std.specs.Prelude.{Ok, Err}
use Rattle.filter.specs.Made.{Made}
use Rattle.filter_text.specs.Spells.{view}
use Rattle.commands.specs.Asked.{IsFilter}
use Rattle.commands.specs.Worlds.{World}
use Rattle.commands.specs.inner.Printed.{PrintsFound}
use Rattle.commands.specs.declared.query.Form.{Form}
use Rattle.databases.specs.Walks.{seen}
use Rattle.commands.proofs.Ends.{hits_printed, hits_begun}
use Rattle.commands.proofs.Listed.{searched_all, searched_more, broken_off}
use Rattle.commands.proofs.listing.ListSearch.answer.Goals as goal

pub returns-in-Ok-false-clause-ends : goal.returns-in-Ok-false-clause-ends
returns-in-Ok-false-clause-ends g c = λ said serves w.
    let q = c.args.query.now in
    let d = c.args.self.now.database.now in
    let f = c.in_ok-query.field-0 in
    let w₁ : World = record w { output = g.O.Sink.written c.args.out.now; messages = g.E.Sink.written c.args.err.now } in
    let spelled = subst (λ (m : Made). IsFilter (Some c.args.text.now) (view m.filter)) (sym c.in_ok-query.ensures) c.requires.filter in
    searched_all c.args.self.now.asked.now d q c.requires.frame said f c.args.text.now c.args.line.text.now c.requires.text spelled c.args.line.number w₁ (g.O.Sink.written c.print_hits.new.out)
    c.in-Ok-false.field-0 c.in-Ok-false.field-0-test
    (subst (λ (form : Form). PrintsFound (record q { filter = f; form = form }) said d (g.O.Sink.written c.args.out.now) (g.O.Sink.written c.print_hits.new.out) (Ok c.in-Ok-false.field-0)) c.in_ok-query-2.ensures
    (hits_printed seen (record q { filter = f; form = c.in_ok-query-2.field-0 }) said d c.in_ok-hits.hits.to_come (c.in_ok-hits.ensures.found said serves) c.in-Ok-false.field-0 _ _ c.in-Ok-false.ensures))

pub returns-in-Ok-true-clause-ends : goal.returns-in-Ok-true-clause-ends
returns-in-Ok-true-clause-ends g c = λ said serves w.
    let q = c.args.query.now in
    let d = c.args.self.now.database.now in
    let f = c.in_ok-query.field-0 in
    let w₁ : World = record w { output = g.O.Sink.written c.args.out.now; messages = g.E.Sink.written c.args.err.now } in
    let spelled = subst (λ (m : Made). IsFilter (Some c.args.text.now) (view m.filter)) (sym c.in_ok-query.ensures) c.requires.filter in
    searched_more c.args.self.now.asked.now d q c.requires.frame said f c.args.text.now c.args.line.text.now c.requires.text spelled c.args.line.number w₁ (g.O.Sink.written c.print_hits.new.out)
    c.in-Ok-true.field-0 c.in-Ok-true.field-0-test
    (subst (λ (form : Form). PrintsFound (record q { filter = f; form = form }) said d (g.O.Sink.written c.args.out.now) (g.O.Sink.written c.print_hits.new.out) (Ok c.in-Ok-true.field-0)) c.in_ok-query-2.ensures
    (hits_printed seen (record q { filter = f; form = c.in_ok-query-2.field-0 }) said d c.in_ok-hits.hits.to_come (c.in_ok-hits.ensures.found said serves) c.in-Ok-true.field-0 _ _ c.in-Ok-true.ensures))
    (g.E.Sink.written c.report_past_limit.new.err) _ c.report_past_limit.ensures.reported

pub returns-in-Err-clause-ends : goal.returns-in-Err-clause-ends
returns-in-Err-clause-ends g c = λ said serves w.
    let q = c.args.query.now in
    let d = c.args.self.now.database.now in
    let f = c.in_ok-query.field-0 in
    let w₁ : World = record w { output = g.O.Sink.written c.args.out.now; messages = g.E.Sink.written c.args.err.now } in
    let spelled = subst (λ (m : Made). IsFilter (Some c.args.text.now) (view m.filter)) (sym c.in_ok-query.ensures) c.requires.filter in
    broken_off c.args.self.now.asked.now d q c.requires.frame said f c.args.text.now c.args.line.text.now c.requires.text spelled c.args.line.number w₁ (g.O.Sink.written c.print_hits.new.out)
    c.of_output.result
    (subst (λ (form : Form). PrintsFound (record q { filter = f; form = form }) said d (g.O.Sink.written c.args.out.now) (g.O.Sink.written c.print_hits.new.out) (Err c.of_output.result)) c.in_ok-query-2.ensures
    (hits_begun seen (record q { filter = f; form = c.in_ok-query-2.field-0 }) said d c.in_ok-hits.hits.to_come (c.in_ok-hits.ensures.found said serves) c.in-Err.fault c.of_output.result _ _ c.of_output.ensures c.in-Err.ensures))
