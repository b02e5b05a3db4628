use Rattle.std.proofs.Common.{List, sym, ap, subst, ◌∙◌}
use Rattle.std.specs.List.{AllByRecursion}
use Rattle.paths.specs.Paths.{Path}
use Rattle.schema.specs.Conf.{Conf}
use Rattle.entries.specs.StoredEntries.{Entry, IsMade}
use Rattle.databases.specs.inner.Dumps.{IsThere}
use Rattle.differences.specs.Differences.{Extent}
use Rattle.differences.specs.inner.Walks.{extent_in}
use Rattle.differences.proofs.Hindered.{stays_next, stays_in}
use Rattle.differences.proofs.Walked.{some_there}
use Rattle.differences.proofs.differ.Differ.stays_below.Goals as goal

pub loop-found-init : goal.loop-found-init
loop-found-init c =
    let extent : Extent = extent_in c.args.self.now in
    let conf : Conf = c.args.self.now.conf.now in
    let a = c.args.self.now.before.now.entries in
    let items : List (Path × Entry) = c.range-found-items.result in
    let gives = c.into_iter-found-iterator.ensures.into_iter_gives in
    record {
      made = subst (AllByRecursion (λ (e : Path × Entry). IsMade conf.types e.1.attrs)) (sym gives)
          (subst (λ (k : Conf). AllByRecursion (λ (e : Path × Entry). IsMade k.types e.1.attrs) items) c.args.self.now.before_conf c.range-found-items.ensures.made);
      there = subst (AllByRecursion (IsThere a)) (sym gives) (some_there a items c.args.path.now c.range-found-items.ensures.entries);
      rest = ap (stays_next extent c.args.path.now) gives ∙ stays_in extent c.args.path.now a items c.range-found-items.ensures.entries;
    }
