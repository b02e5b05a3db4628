use Rattle.std.proofs.Common.{IfOk, subst}
use Rattle.directory.specs.Directories.{Directory, tree_of}
use Rattle.directory.specs.Searches.{FindsByIndex}
use Rattle.directory.proofs.directory.Directory.search.Goals as goal

pub returns-clause-finds : goal.returns-clause-finds
returns-clause-finds c =
    subst (λ (d : Directory). IfOk c.search_with_index.result (FindsByIndex d.conf (tree_of d) c.args.filter.now c.args.base.now c.args.scope)) c.self.view_is c.search_with_index.ensures.finds
