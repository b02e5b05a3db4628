use Rattle.std.proofs.Common.{◌≡◌, false, List, sym, ap, subst, ◌∙◌}
use Rattle.std.specs.List.{AllByRecursion}
use Rattle.std.specs.FinMap as finite
use Rattle.paths.specs.Paths.{Path}
use Rattle.schema.specs.Conf.{Conf}
use Rattle.entries.specs.Entries.{EntryContent}
use Rattle.entries.specs.StoredEntries.{Entry, IsMade}
use Rattle.tree.specs.Trees.{seen_entries}
use Rattle.databases.specs.inner.Dumps.{IsThere}
use Rattle.differences.specs.Obstacles.{is_hindered}
use Rattle.differences.specs.inner.Walks.{extent_in}
use Rattle.differences.proofs.Walked.{all_seen, lent_there}
use Rattle.differences.proofs.differ.Differ.push_hindered.Goals as goal

pub loop-path-init : goal.loop-path-init
loop-path-init c =
    let self = c.args.self.now in
    let conf : Conf = self.conf.now in
    let d = self.after.now.entries in
    let items : List (Path × Entry) = c.range-path-items.result in
    let gives = c.into_iter-path-iterator.ensures.into_iter_gives in
    let seen = c.range-path-items.ensures.entries in
    let all : seen_entries c.into_iter-path-iterator.result ≡ finite.entries d = ap seen_entries gives ∙ all_seen d items c.root-root.result c.root-root.ensures seen in
    record {
      names = c.new-names.ensures ∙ c.new-lent.ensures.tree;
      made = subst (AllByRecursion (λ (e : Path × Entry). IsMade conf.types e.1.attrs)) (sym gives)
          (subst (λ (k : Conf). AllByRecursion (λ (e : Path × Entry). IsMade k.types e.1.attrs) items) self.after_conf c.range-path-items.ensures.made);
      there = subst (AllByRecursion (IsThere d)) (sym gives) (lent_there d items c.root-root.result c.root-root.ensures seen);
      so_far = λ none. (none, λ clear. subst (AllByRecursion (λ (y : Path × EntryContent). is_hindered conf (extent_in self) self.before.now.entries y ≡ false)) all clear);
    }
