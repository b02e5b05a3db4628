-- Entries in the order of paths: how many come before a base, and how many of the others the base begins.
use Rattle.std.proofs.Common.{◌≡◌, ℕ, zero, suc, ◌+◌, ◌≤◌, ◌<◌, ◌^◌, Bool, true, false, cond, List, [], ◌∷◌, map, length, take, drop, refl, sym, ap, subst, ◌∙◌, arith}
use Rattle.std.specs.Prelude.{T, filter, ◌++◌}
use Rattle.std.specs.Borrow.{Bor}
use Rattle.std.specs.Ordering.{is_lt, is_le, ordering_reverse}
use Rattle.std.specs.declared.cmp.Ordering.{Ordering}
use Rattle.std.specs.declared.cmp.Ordering.TheVariants.{Less, Equal, Greater}
use Rattle.std.specs.List.{AllByRecursion}
use Rattle.std.specs.FinMap as finite
use Rattle.std.specs.FinMap.Entries.{is_sorted, below_all}
use Rattle.std.proofs.lemmas.List.{length-take-le}
use Rattle.paths.specs.Paths.{Path, path_cmp, begins}
use Rattle.entries.specs.Entries.{EntryContent}
use Rattle.entries.specs.StoredEntries.{Entry, content_of, IsMade}
use Rattle.tree.specs.Directories.{Entries}
use Rattle.tree.specs.Trees.{Tree, seen_entries}
use Rattle.tree.proofs.Order.{rdn_key_total, path_total}
use Rattle.tree.proofs.Stretch.{not_again}
use Rattle.databases.specs.Ranks.{rank_in}
use Rattle.databases.specs.inner.Picks.{lent_entries, AreInOrder, Rise, comes_before, is_begun}
use Rattle.databases.proofs.Places.{split_and, less, apart, not_before}
use Rattle.databases.proofs.Points.{FallsOff, parted, PartsAt, taken, behind, kept_behind}

abbrev pub Lending : Type 0
Lending = Bor Path × Bor Entry

abbrev contents : List Lending → List (Path × EntryContent)
contents es = seen_entries (lent_entries es)

-- what comes behind the first of entries that rise
module _ (P : Lending → Type 0) where
  all_behind : (e : Lending) (es : List Lending) → ((f : Lending) → path_cmp e.0.now f.0.now ≡ Less → P f) → T (below_all path_cmp e.0.now (contents es)) → AllByRecursion P es
  all_behind e [] each below = tt
  all_behind e (f ∷ fs) each below =
      let both = split_and (is_lt (path_cmp e.0.now f.0.now)) (below_all path_cmp e.0.now (contents fs)) below in
      (each f (less (path_cmp e.0.now f.0.now) both.0), all_behind e fs each both.1)

-- ---- those before a path

pub before_falls : (p : Path) (es : List Lending) → Rise es → FallsOff (comes_before p) es
before_falls p [] rise = tt
before_falls p (e ∷ es) rise =
    let both = split_and (below_all path_cmp e.0.now (contents es)) (is_sorted path_cmp (contents es)) rise in
    (λ fails. all_behind (λ f. comes_before p f ≡ false) e es (λ f later. not_before e.0.now f.0.now p (subst T (sym (ap is_lt later)) tt) fails) both.0, before_falls p es both.1)

-- ---- those that a base begins, from the base on

from_base : (base : Path) (e : Lending) → comes_before base e ≡ false → is_le (path_cmp base e.0.now) ≡ true
from_base base e not =
    ap is_le (path_total.antisymm base e.0.now)
    ∙ elim (path_cmp e.0.now base) as (λ o. is_lt o ≡ false → is_le (ordering_reverse o) ≡ true) [ Less ↦ λ h. cc | Equal ↦ λ h. refl | Greater ↦ λ h. refl ] not

pub begun_falls : (base : Path) (es : List Lending) → Rise es → AllByRecursion (λ e. comes_before base e ≡ false) es → FallsOff (is_begun base) es
begun_falls base [] rise from = tt
begun_falls base (e ∷ es) rise from =
    let both = split_and (below_all path_cmp e.0.now (contents es)) (is_sorted path_cmp (contents es)) rise in
    (λ fails. all_behind (λ f. is_begun base f ≡ false) e es (λ f later. not_again rdn_key_total base e.0.now f.0.now (from_base base e from.0) fails later) both.0, begun_falls base es both.1 from.1)

pub rise_behind : (i : ℕ) (es : List Lending) → Rise es → Rise (drop i es)
rise_behind zero es rise = rise
rise_behind (suc i) [] rise = tt
rise_behind (suc i) (e ∷ es) rise = rise_behind i es (split_and (below_all path_cmp e.0.now (contents es)) (is_sorted path_cmp (contents es)) rise).1

-- ---- both

count_seen : (p : Path) (es : List Lending) → length (filter (comes_before p) es) ≡ length (filter (λ (e : Path × EntryContent). is_lt (path_cmp e.0 p)) (contents es))
count_seen p [] = refl
count_seen p (e ∷ es) = by (comes_before p e) (count_seen p es)
  where
    by : (b : Bool) → length (filter (comes_before p) es) ≡ length (filter (λ (e : Path × EntryContent). is_lt (path_cmp e.0 p)) (contents es))
        → length (cond b (e ∷ filter (comes_before p) es) (filter (comes_before p) es)) ≡ length (cond b ((e.0.now, content_of e.1.now) ∷ filter (λ (e : Path × EntryContent). is_lt (path_cmp e.0 p)) (contents es)) (filter (λ (e : Path × EntryContent). is_lt (path_cmp e.0 p)) (contents es)))
    by true more = omega (arith, more)
    by false more = more

begun_seen : (base : Path) (es : List Lending) → contents (filter (is_begun base) es) ≡ filter (λ e. begins base e.0) (contents es)
begun_seen base [] = refl
begun_seen base (e ∷ es) = by (is_begun base e) (begun_seen base es)
  where
    by : (b : Bool) → contents (filter (is_begun base) es) ≡ filter (λ e. begins base e.0) (contents es)
        → contents (cond b (e ∷ filter (is_begun base) es) (filter (is_begun base) es)) ≡ cond b ((e.0.now, content_of e.1.now) ∷ filter (λ e. begins base e.0) (contents es)) (filter (λ e. begins base e.0) (contents es))
    by true more = ap (λ (xs : List (Path × EntryContent)). (e.0.now, content_of e.1.now) ∷ xs) more
    by false more = more

module _ (t : Tree) (es : List Lending) (order : AreInOrder t es) (base : Path) (i : ℕ) (fits : i ≤ length es) (first : PartsAt (comes_before base) es i) where
  pub is_rank : i ≡ rank_in t.entries base
  is_rank =
      let long = length-take-le i es fits in
      sym long ∙ ap length (taken (comes_before base) es i fits first) ∙ count_seen base es ∙ ap (λ (xs : List (Path × EntryContent)). length (filter (λ e. is_lt (path_cmp e.0 base)) xs)) order.entries

  pub are_begun : (j : ℕ) → j ≤ length (drop i es) → PartsAt (is_begun base) (drop i es) j → contents (take j (drop i es)) ≡ filter (λ e. begins base e.0) (finite.entries t.entries)
  are_begun j within parts =
      ap contents (taken (is_begun base) (drop i es) j within parts ∙ kept_behind (comes_before base) (is_begun base) (λ e is. apart base e.0.now is) es i fits first)
      ∙ begun_seen base es
      ∙ ap (filter (λ (e : Path × EntryContent). begins base e.0)) order.entries

-- ---- parts of a list

module _ {X : Type 0} (P : X → Type 0) where
  pub all_dropped : (i : ℕ) (xs : List X) → AllByRecursion P xs → AllByRecursion P (drop i xs)
  all_dropped zero xs all = all
  all_dropped (suc i) [] all = tt
  all_dropped (suc i) (x ∷ xs) all = all_dropped i xs all.1

  pub all_taken : (i : ℕ) (xs : List X) → AllByRecursion P xs → AllByRecursion P (take i xs)
  all_taken zero xs all = tt
  all_taken (suc i) [] all = tt
  all_taken (suc i) (x ∷ xs) all = (all.0, all_taken i xs all.1)

pub in_order_rise : (t : Tree) (es : List Lending) → AreInOrder t es → Rise es
in_order_rise t es order = subst (λ (xs : List (Path × EntryContent)). T (is_sorted path_cmp xs)) (sym order.entries) (finite.entries_sorted t.entries)

seen_count : (es : List Lending) → length (contents es) ≡ length es
seen_count [] = refl
seen_count (e ∷ es) = let k = seen_count es in omega (arith, k)

-- as many as the tree has
pub in_order_count : (t : Tree) (es : List Lending) → AreInOrder t es → length es ≡ finite.len t.entries
in_order_count t es order = sym (seen_count es) ∙ ap length order.entries ∙ sym (finite.len-entries t.entries)

-- the order that a value keeps, of the tree that it is seen as
pub in_order_is : {kept t : Tree} {items es : List Lending} → kept ≡ t → es ≡ items → AreInOrder kept items → AreInOrder t es
in_order_is {kept} {t} {items} {es} view value order = subst (λ (t : Tree). AreInOrder t es) view (subst (AreInOrder kept) (sym value) order)
