use Rattle.commands.proofs.Ends.{scanned_is, found_written}
use Rattle.commands.proofs.excerpt.ExcerptFileText.write.Goals as goal

pub returns-in-Some-clause-writes : goal.returns-in-Some-clause-writes
returns-in-Some-clause-writes g c =
    let self = c.args.self.now in
    found_written c.print_hits.result _ _ _ _ _
    (scanned_is self.query.now self.database.now c.tree.result.now _ c.tree.ensures c.in-Some.ensures.found c.in-Some.ensures.there) c.print_hits.ensures
