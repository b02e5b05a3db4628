use Rattle.std.proofs.Common.{map, subst}
use Rattle.std.proofs.lemmas.Result.{IfOk-weaker}
use Rattle.databases.specs.Walks.{seen}
use Rattle.stored_index.specs.Stored.{Stored}
use Rattle.commands.specs.declared.index_file.IndexFile.{IndexFile}
use Rattle.commands.specs.inner.IndexFiles.{Says, Keeps}
use Rattle.commands.proofs.Ends.{found_by_part, found_in, says_no_index, says_nothing}
use Rattle.commands.proofs.searching.find.Goals as goal

pub returns-in-Faulty-clause-found : goal.returns-in-Faulty-clause-found
returns-in-Faulty-clause-found c =
    IfOk-weaker c.find_by_scan.result _ _ (λ h found said kept. found said (says_no_index c.args.query.now.filter c.in-Faulty.field-0 said
    (subst (λ (file : IndexFile). Says c.args.query.now.filter file said) c.in-Faulty.is kept.says))) c.find_by_scan.ensures.found

pub returns-in-Missing-clause-found : goal.returns-in-Missing-clause-found
returns-in-Missing-clause-found c =
    IfOk-weaker c.find_by_scan-in-Missing.result _ _ (λ h found said kept. found said (says_nothing c.args.query.now.filter said
    (subst (λ (file : IndexFile). Says c.args.query.now.filter file said) c.in-Missing.is kept.says))) c.find_by_scan-in-Missing.ensures.found

pub returns-in-Ok-clause-found : goal.returns-in-Ok-clause-found
returns-in-Ok-clause-found c = λ said kept.
    let q = c.args.query.now in
    let d = c.args.database.now in
    let part : Stored = c.in-Read.stored in
    let es = map seen c.in-Ok.hits.to_come in
    found_by_part q d part es c.requires
    (found_in q part es d c.tree.result.now c.conf.result.now c.tree.ensures c.conf.ensures
    (record { there = c.in-Ok.ensures.there; found = c.in-Ok.ensures.finds.found; same = c.search_with-found.ensures.part; all = c.in-Ok.ensures.whole }))
    said (subst (λ (file : IndexFile). Keeps d q.filter file said) c.in-Read.is kept)
