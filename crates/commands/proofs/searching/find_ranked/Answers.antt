use Rattle.std.proofs.Common.{map, subst}
use Rattle.std.specs.Prelude.{Option}
use Rattle.databases.specs.Walks.{seen}
use Rattle.stored_index.specs.Stored.{Stored}
use Rattle.commands.specs.inner.IndexFiles.{Serves}
use Rattle.commands.proofs.Ends.{found_ranked, own_scanned, found_in}
use Rattle.commands.proofs.searching.find_ranked.Goals as goal

pub returns-in-Ok-clause-found : goal.returns-in-Ok-clause-found
returns-in-Ok-clause-found c = λ said serves.
    let q = c.args.query.now in
    let d = c.args.database.now in
    let index : Stored = c.in-Some.index in
    let es = map seen c.in-Ok.hits.to_come in
    found_ranked q d index es c.requires.prepared
    (found_in q index es d c.args.entries.now c.conf.result.now c.requires.entries c.conf.ensures
    (record { there = c.in-Ok.ensures.there; found = c.in-Ok.ensures.finds.found; same = c.search_ranked_with-found.ensures.part; all = c.in-Ok.ensures.whole }))
    (own_scanned q d index es c.args.entries.now c.conf.result.now c.requires.entries c.conf.ensures c.in-Ok.ensures.index)
    said (subst (λ (index : Option Stored). Serves d index said) c.in-Some.is serves)
