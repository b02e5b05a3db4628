-- The numbers of a tree where an entry moves with those below it.
use Rattle.std.proofs.Common.{◌≡◌, ℕ, List, [], ◌∷◌, refl, sym, ◌∙◌, ap, subst, Some}
use Rattle.std.specs.Prelude.{if◌then◌else◌, true, false}
use Rattle.std.specs.Ordering.{eq_by_cmp}
use Rattle.std.specs.Option.{option_map}
use Rattle.std.specs.FinMap as finite
use Rattle.tree.specs.Cells.{taken, IsSet}
use Rattle.paths.specs.Paths.{Path, path_cmp, begins}
use Rattle.schema.specs.Conf.{Conf}
use Rattle.tree.specs.Directories.{Entries, IsDirectory}
use Rattle.entries.specs.StoredEntries.{Entry, content_of, IsMade}
use Rattle.tree.specs.Changes.{moved_path, moved_entries, moved}
use Rattle.tree.specs.Trees.{Tree, Numbers, seen_entries}
use Rattle.tree.specs.inner.Trees.{Cells, joined, numbers_of, entries_in, AreNumbered, IsKept}
use Rattle.tree.proofs.Order.{path_total, path_exact}
use Rattle.tree.proofs.Moved.{came_from, leads_to, leads_itself, same_len}
use Rattle.tree.proofs.TreeLemmas.{no_entries, no_numbers}
use Rattle.tree.proofs.Numbered.{IsRising, IsFree, content_at, entries_get, entries_list, entries_put, numbered_put, numbers_len}
use Rattle.tree.proofs.Carried.{IsCarried, carried, put_same}

module _ (from to : Path) (cells : Cells) where
  entries_insert : (m : Numbers) (p : Path) (n : ℕ) → entries_in cells (finite.insert m p n) ≡ finite.insert (entries_in cells m) p (content_at cells n)
  entries_insert m p n = finite.same_map path_total path_exact _ _ (λ q.
      entries_get cells (finite.insert m p n) q
      ∙ ap (option_map (content_at cells)) (finite.get-insert path_total m p n q)
      ∙ elim (eq_by_cmp path_cmp q p) as (λ b. option_map (content_at cells) (if b then Some n else finite.get m q) ≡ (if b then Some (content_at cells n) else finite.get (entries_in cells m) q)) [ true ↦ refl | false ↦ sym (entries_get cells m q) ]
      ∙ sym (finite.get-insert path_total (entries_in cells m) p (content_at cells n) q))

  entries_along : (es : List (Path × ℕ)) → entries_in cells (finite.from_entries (moved_entries from to es)) ≡ finite.from_entries (moved_entries from to (seen_entries (joined cells es)))
  entries_along [] = ap (entries_in cells) (sym no_numbers) ∙ no_entries cells
  entries_along (e ∷ es) =
      entries_insert (finite.from_entries (moved_entries from to es)) (moved_path from to e.0) e.1
      ∙ ap (λ (d : Entries). finite.insert d (moved_path from to e.0) (content_at cells e.1)) (entries_along es)

  -- the entries move as the numbers do
  pub entries_moved : (m : Numbers) → entries_in cells (moved from to m) ≡ moved from to (entries_in cells m)
  entries_moved m = entries_along (finite.entries m) ∙ ap (λ es. finite.from_entries (moved_entries from to es)) (sym (entries_list cells m))

  module _ (conf : Conf) (m : Numbers) (h : AreNumbered conf cells m) where
    numbered_moved : AreNumbered conf cells (moved from to m)
    numbered_moved = record {
      filled = λ q k is. let a = came_from from to m q k is in h.filled a.0 k a.1;
      apart = λ q r k is js. let a = came_from from to m q k is in let b = came_from from to m r k js in sym a.2 ∙ ap (moved_path from to) (h.apart a.0 b.0 k a.1 b.1) ∙ b.2;
    }

    free_moved : (n : ℕ) → finite.get m from ≡ Some n → IsFree (moved from to m) to n
    free_moved n own q k apart is same =
        let a = came_from from to m q k is in
        apart (sym a.2 ∙ ap (moved_path from to) (h.apart a.0 from n (a.1 ∙ ap (λ (j : ℕ). Some j) same) own) ∙ leads_itself from to)

module _ (conf : Conf) (cells : Cells) (next : ℕ) (es : List (Path × ℕ)) (kept : IsKept conf cells es) where
  abbrev m : Numbers
  m = numbers_of es

  abbrev whole : Tree
  whole = record { conf = conf; entries = entries_in cells m; numbers = m; next_number = next }

  -- all numbers exchanged, and another entry in the cell of the one that moves
  pub exchange_done : (after : Cells) (from to : Path) (n : ℕ) (e : Entry) → IsSet cells after n (Some e) → taken after ≡ taken cells
      → (es' : List (Path × ℕ)) → IsRising es' → numbers_of es' ≡ moved from to m
      → (d : Tree) → whole ≡ d → finite.get d.numbers from ≡ Some n → ((p : Path) (k : ℕ) → finite.get d.numbers p ≡ Some k → begins to p ≡ false) → IsMade d.conf.types e.attrs → IsDirectory d.conf (finite.insert (moved from to d.entries) to (content_of e))
      → IsCarried conf after es' (finite.insert (moved from to d.entries) to (content_of e)) (finite.insert (moved from to d.numbers) to n)
  exchange_done after from to n e sets same es' rising come d is there spare made directory = subst
      (λ (x : Tree). finite.get x.numbers from ≡ Some n → ((p : Path) (k : ℕ) → finite.get x.numbers p ≡ Some k → begins to p ≡ false) → IsMade x.conf.types e.attrs → IsDirectory x.conf (finite.insert (moved from to x.entries) to (content_of e))
      → IsCarried conf after es' (finite.insert (moved from to x.entries) to (content_of e)) (finite.insert (moved from to x.numbers) to n))
      is
      (λ there spare made directory.
      let new : finite.get (moved from to m) to ≡ Some n = ap (λ (y : Path). finite.get (moved from to m) y) (sym (leads_itself from to)) ∙ leads_to from to m spare from n there in
      let put : moved from to m ≡ finite.insert (moved from to m) to n = put_same (moved from to m) to n new in
      let free : IsFree (moved from to m) to n = free_moved from to cells conf m kept.numbered n there in
      carried conf after es' _ _
      rising
      (come ∙ put)
      (numbered_put cells after (moved from to m) to n free conf (numbered_moved from to cells conf m kept.numbered) e sets made)
      (same ∙ kept.counted ∙ sym (numbers_len es kept.sorted) ∙ sym (same_len from to m spare) ∙ ap finite.len (sym come) ∙ numbers_len es' rising)
      (entries_put cells after (moved from to m) to n free e sets ∙ ap (λ (x : Entries). finite.insert x to (content_of e)) (entries_moved from to cells m))
      directory)
      there spare made directory
