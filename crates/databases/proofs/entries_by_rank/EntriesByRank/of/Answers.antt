use Rattle.std.proofs.Common.{◌≡◌, ◌++◌, List, [], ◌∷◌, map, sym, ap, subst, ◌∙◌, append_assoc, refl}
use Rattle.std.specs.Prelude.{filter}
use Rattle.std.specs.FinMap as finite
use Rattle.std.specs.List.{AllByRecursion}
use Rattle.paths.proofs.Unpacked.{all_append}
use Rattle.paths.specs.Paths.{Path, begins}
use Rattle.entries.specs.Entries.{EntryContent}
use Rattle.entries.specs.StoredEntries.{content_of, IsMade}
use Rattle.tree.specs.Trees.{Tree, Placed, unnumbered, seen_entries}
use Rattle.databases.specs.inner.Picks.{lent_entries}
use Rattle.databases.proofs.DumpText.{all_begin}
use Rattle.databases.proofs.FromBase.{Lending}
use Rattle.databases.proofs.entries_by_rank.EntriesByRank.of.Goals as goal

abbrev seen : List Lending → List (Path × EntryContent)
seen es = seen_entries (lent_entries es)

abbrev left : List Placed → List (Path × EntryContent)
left es = seen_entries (map unnumbered es)

pub loop-found-init : goal.loop-found-init
loop-found-init c =
    let t : Tree = c.args.tree.now in
    let items : List Placed = c.numbered-found-items.result in
    let gives = c.into_iter-found-iterator.ensures.into_iter_gives in
    let none = c.in_ok-entries.ensures.items in
    let top = c.root-root.ensures in
    record {
      made = subst (AllByRecursion (λ (e : Placed). IsMade t.conf.types e.entry.attrs)) (sym gives) c.numbered-found-items.ensures.made;
      taken = subst (AllByRecursion (λ (e : Lending). IsMade t.conf.types e.1.now.attrs)) (sym none) tt;
      so_far = ap (λ (es : List Lending). seen es ++ left c.into_iter-found-iterator.result) none
          ∙ ap left gives
          ∙ c.numbered-found-items.ensures.entries
          ∙ ap (λ (p : Path). filter (λ e. begins p e.0) (finite.entries t.entries)) top
          ∙ all_begin (finite.entries t.entries);
    }

pub loop-found-preserved : goal.loop-found-preserved
loop-found-preserved c =
    let t : Tree = c.args.tree.now in
    let old : List Lending = c.loop-found.entries.items in
    let is_made : Lending → Type 0 = λ e. IsMade t.conf.types e.1.now.attrs in
    let made = subst (AllByRecursion (λ (e : Placed). IsMade t.conf.types e.entry.attrs)) c.in-Some.ensures.steps c.loop-found.invariant.made in
    let pushed = c.in_ok-push.ensures.items in
    record {
      made = made.1;
      taken = subst (AllByRecursion is_made) (sym pushed) (all_append is_made old _ c.loop-found.invariant.taken (made.0, tt));
      so_far = ap (λ (es : List Lending). seen es ++ left c.next.new.self) pushed
          ∙ ap (λ (xs : List (Path × EntryContent)). xs ++ left c.next.new.self) (seen_append old _)
          ∙ append_assoc (seen old) _ (left c.next.new.self)
          ∙ ap (λ (es : List Placed). seen old ++ left es) (sym c.in-Some.ensures.steps)
          ∙ c.loop-found.invariant.so_far;
    }
  where
    seen_append : (xs ys : List Lending) → seen (xs ++ ys) ≡ seen xs ++ seen ys
    seen_append [] ys = refl
    seen_append (x ∷ xs) ys = ap (λ (zs : List (Path × EntryContent)). (x.0.now, content_of x.1.now) ∷ zs) (seen_append xs ys)
