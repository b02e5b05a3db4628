use Rattle.std.proofs.Common.{map}
use Rattle.databases.specs.Walks.{seen}
use Rattle.commands.proofs.Ends.{found_by_scan}
use Rattle.commands.proofs.searching.find_by_scan.Goals as goal

pub returns-in-Some-clause-found : goal.returns-in-Some-clause-found
returns-in-Some-clause-found c =
    found_by_scan c.args.query.now c.args.database.now c.tree.result.now (map seen c.in-Some.hits.to_come) c.tree.ensures c.in-Some.ensures.found c.in-Some.ensures.there
