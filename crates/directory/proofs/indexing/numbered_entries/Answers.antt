use Rattle.std.proofs.Common.{◌≡◌, ◌||◌, List, filter, map, Some, ap, refl, sym, subst, ◌∙◌}
use Rattle.paths.specs.Paths.{begins}
use Rattle.paths.proofs.Unpacked.{all_append}
use Rattle.std.specs.FinMap as finite
use Rattle.std.specs.List.{AllByRecursion}
use Rattle.entries.specs.StoredEntries.{IsMade}
use Rattle.tree.specs.Trees.{Tree, Placed, unnumbered, seen_entries}
use Rattle.index_keys.specs.declared.type_norms.Numbered.{Numbered}
use Rattle.index_keys.specs.NumberedEntries.{has_among}
use Rattle.directory.specs.inner.Indexes.{has_placed, has_in_tree}
use Rattle.directory.proofs.WholeIndex.{none_yet, one_more, no_more}
use Rattle.directory.proofs.indexing.numbered_entries.Goals as goal

pub loop-found-init : goal.loop-found-init
loop-found-init c =
    let d : Tree = c.args.database.now in
    let items : List Placed = c.numbered-found-items.result in
    let same = c.tree-tree.ensures in
    let gives = c.into_iter-found-iterator.ensures.into_iter_gives in
    record {
      made = subst (AllByRecursion (λ (e : Placed). IsMade d.conf.types e.entry.attrs)) (sym gives)
          (subst (λ (t : Tree). AllByRecursion (λ (e : Placed). IsMade t.conf.types e.entry.attrs) items) same c.numbered-found-items.ensures.made);
      taken = subst (AllByRecursion (λ (e : Numbered). IsMade d.conf.types e.entry.now.attrs)) (sym c.in_ok-entries.ensures.items) tt;
      so_far = λ n k.
          ap (λ (xs : List Numbered). has_among d.conf xs n k || has_placed d.conf c.into_iter-found-iterator.result n k) c.in_ok-entries.ensures.items
          ∙ none_yet d.conf d c.into_iter-found-iterator.result c.args.root.now c.requires
          (subst (λ (es : List Placed). seen_entries (map unnumbered es) ≡ filter (λ e. begins c.args.root.now e.0) (finite.entries d.entries)) (sym gives)
          (subst (λ (t : Tree). seen_entries (map unnumbered items) ≡ filter (λ e. begins c.args.root.now e.0) (finite.entries t.entries)) same c.numbered-found-items.ensures.entries))
          (subst (AllByRecursion (λ (e : Placed). finite.get d.numbers e.path ≡ Some e.number)) (sym gives)
          (subst (λ (t : Tree). AllByRecursion (λ (e : Placed). finite.get t.numbers e.path ≡ Some e.number) items) same c.numbered-found-items.ensures.numbers)) n k;
    }

pub loop-found-preserved : goal.loop-found-preserved
loop-found-preserved c =
    let d : Tree = c.args.database.now in
    let is_made : Numbered → Type 0 = λ x. IsMade d.conf.types x.entry.now.attrs in
    let e : Placed = record { path = c.in-Some.found.0.now; number = c.in-Some.found.1; entry = c.in-Some.found.2.now } in
    let made = subst (AllByRecursion (λ (e : Placed). IsMade d.conf.types e.entry.attrs)) c.in-Some.ensures.steps c.loop-found.invariant.made in
    record {
      made = made.1;
      taken = subst (AllByRecursion is_made) (sym c.in_ok-push.ensures.items) (all_append is_made c.loop-found.entries.items _ c.loop-found.invariant.taken (made.0, tt));
      so_far = one_more d.conf c.loop-found.entries.items c.push.new.self.items _ e c.loop-found.found-iterator c.next.new.self (has_in_tree d.conf d) c.in-Some.ensures.steps c.in_ok-push.ensures.items refl refl c.loop-found.invariant.so_far;
    }

pub returns-clause-all : goal.returns-clause-all
returns-clause-all c = no_more c.args.database.now.conf c.args.database.now c.loop-found.entries.items c.loop-found.found-iterator c.in-None.ensures.steps.0 c.loop-found.invariant.so_far
