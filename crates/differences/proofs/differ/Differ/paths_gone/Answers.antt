use Rattle.std.proofs.Common.{◌++◌, List, sym, ap, subst, ◌∙◌}
use Rattle.std.specs.List.{AllByRecursion}
use Rattle.paths.specs.Paths.{Path}
use Rattle.schema.specs.Conf.{Conf}
use Rattle.entries.specs.StoredEntries.{Entry, IsMade}
use Rattle.tree.specs.Trees.{seen_entries}
use Rattle.databases.specs.inner.Dumps.{IsThere}
use Rattle.differences.specs.Differences.{Extent}
use Rattle.differences.specs.inner.Walks.{extent_in, gone_of, lent_paths}
use Rattle.differences.proofs.Walked.{all_seen, lent_there}
use Rattle.differences.proofs.differ.Differ.paths_gone.Goals as goal

pub loop-path-init : goal.loop-path-init
loop-path-init c =
    let extent : Extent = extent_in c.args.self.now in
    let conf : Conf = c.args.self.now.conf.now in
    let a = c.args.self.now.before.now.entries in
    let b = c.args.self.now.after.now.entries in
    let items : List (Path × Entry) = c.range-path-items.result in
    let gives = c.into_iter-path-iterator.ensures.into_iter_gives in
    let seen = c.range-path-items.ensures.entries in
    record {
      made = subst (AllByRecursion (λ (e : Path × Entry). IsMade conf.types e.1.attrs)) (sym gives)
          (subst (λ (k : Conf). AllByRecursion (λ (e : Path × Entry). IsMade k.types e.1.attrs) items) c.args.self.now.before_conf c.range-path-items.ensures.made);
      there = subst (AllByRecursion (IsThere a)) (sym gives) (lent_there a items c.args.root.now c.requires seen);
      so_far =
          ap (λ ps. lent_paths ps ++ gone_of extent b (seen_entries c.into_iter-path-iterator.result)) c.new-gone.ensures.items
          ∙ ap (λ es. gone_of extent b (seen_entries es)) gives
          ∙ ap (gone_of extent b) (all_seen a items c.args.root.now c.requires seen);
    }
