use Rattle.std.proofs.Common.{◌≡◌, List, map, filter, [], arith, refl, sym, ap, subst, ◌∙◌}
use Rattle.std.specs.List.{AllByRecursion}
use Rattle.std.proofs.lemmas.List.{map-append}
use Rattle.std.proofs.lemmas.List.Sorted.{IsPermutation-refl}
use Rattle.paths.proofs.Unpacked.{all_append}
use Rattle.entries.specs.StoredEntries.{IsMade}
use Rattle.paths.specs.Paths.{begins}
use Rattle.std.specs.FinMap as finite
use Rattle.tree.specs.Directories.{IsDirectory}
use Rattle.tree.specs.Trees.{Tree, Placed, unnumbered, seen_entries}
use Rattle.index_keys.specs.declared.type_norms.Numbered.{Numbered}
use Rattle.databases.specs.declared.placed_entries.PlacedEntry.{PlacedEntry}
use Rattle.databases.proofs.RankedEntries.{EntriesSoFar, none_ranked, one_ranked, few_ranked, all_ranked}
use Rattle.databases.proofs.placed_entries.placed_entries.Goals as goal

abbrev ranked : List PlacedEntry → List Numbered
ranked es = map (λ e. e.ranked) es

pub loop-found-init : goal.loop-found-init
loop-found-init c =
    let d : Tree = c.args.database.now in
    let items : List Placed = c.numbered-found-items.result in
    let gives = c.into_iter-found-iterator.ensures.into_iter_gives in
    let none : ranked c.in_ok-entries.entries.items ≡ [] = ap ranked c.in_ok-entries.ensures.items in
    record {
      made = subst (AllByRecursion (λ (e : Placed). IsMade d.conf.types e.entry.attrs)) (sym gives)
          (subst (λ (t : Tree). AllByRecursion (λ (e : Placed). IsMade t.conf.types e.entry.attrs) items) c.tree-tree.ensures c.numbered-found-items.ensures.made);
      taken = subst (AllByRecursion (λ (e : Numbered). IsMade d.conf.types e.entry.now.attrs)) (sym none) tt;
      so_far = subst (λ (es : List Placed). EntriesSoFar d.entries (ranked c.in_ok-entries.entries.items) 0 (map unnumbered es)) (sym gives)
          (none_ranked d.entries (ranked c.in_ok-entries.entries.items) (map unnumbered items) c.args.root.now none c.requires
          (subst (λ (t : Tree). seen_entries (map unnumbered items) ≡ filter (λ e. begins c.args.root.now e.0) (finite.entries t.entries)) c.tree-tree.ensures c.numbered-found-items.ensures.entries));
    }

pub overflow_add-rank : goal.overflow_add-rank
overflow_add-rank c =
    let d : Tree = c.args.database.now in
    let is : IsDirectory d.conf d.entries = subst (λ (t : Tree). IsDirectory t.conf t.entries) c.tree-tree.ensures c.entries_are_a_directory.ensures in
    let few = few_ranked d.conf d.entries (ranked c.loop-found.entries.items) c.loop-found.rank (map unnumbered c.loop-found.found-iterator) (map unnumbered c.next.new.self) _ is (ap (map unnumbered) c.in-Some.ensures.steps) c.loop-found.invariant.so_far in
    omega (arith, few)

pub loop-found-preserved : goal.loop-found-preserved
loop-found-preserved c =
    let d : Tree = c.args.database.now in
    let is_made : Numbered → Type 0 = λ x. IsMade d.conf.types x.entry.now.attrs in
    let made = subst (AllByRecursion (λ (e : Placed). IsMade d.conf.types e.entry.attrs)) c.in-Some.ensures.steps c.loop-found.invariant.made in
    let old : List PlacedEntry = c.loop-found.entries.items in
    let pushed = ap ranked c.in_ok-push.ensures.items ∙ map-append (λ (e : PlacedEntry). e.ranked) old _ in
    record {
      made = made.1;
      taken = subst (AllByRecursion is_made) (sym pushed) (all_append is_made (ranked old) _ c.loop-found.invariant.taken (made.0, tt));
      so_far = one_ranked d.entries (ranked old) (ranked c.push.new.self.items) c.loop-found.rank (map unnumbered c.loop-found.found-iterator) (map unnumbered c.next.new.self) _ _ (ap (map unnumbered) c.in-Some.ensures.steps) pushed refl refl c.loop-found.invariant.so_far;
    }

pub returns : goal.returns
returns c = record {
  made = c.loop-found.invariant.taken;
  in_order = ranked c.loop-found.entries.items;
  from = all_ranked c.args.database.now.entries (ranked c.loop-found.entries.items) c.loop-found.rank (map unnumbered c.loop-found.found-iterator) (ap (map unnumbered) c.in-None.ensures.steps.0) c.loop-found.invariant.so_far;
  moved = IsPermutation-refl (ranked c.loop-found.entries.items);
}
