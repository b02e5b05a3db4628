-- Ranks: ascending, each once.
use Rattle.std.proofs.Common.{◌≡◌, ℕ, ◌<◌, Bool, true, false, cond, ◌&&◌, ◌||◌, nat_eq, List, [], ◌∷◌, map, refl, sym, ap, ◌∙◌}
use Rattle.std.specs.Prelude.{is_some, Some, T}
use Rattle.std.specs.declared.cmp.Ordering.{Ordering}
use Rattle.std.specs.declared.cmp.Ordering.TheVariants.{Less, Equal, Greater}
use Rattle.std.specs.List.{list_any, AllByRecursion, dedup}
use Rattle.std.specs.List.Retain.{IsFiltered, DiffersFromLast}
use Rattle.std.specs.List.Sorted.{IsPermutation, IsSorted, IsStrictlySortedBy}
use Rattle.std.specs.Ordering.{nat_cmp, is_lt, eq_by_cmp}
use Rattle.std.specs.Cmp.{nat_cmp_total, unsigned_tied, nat_eq_equiv}
use Rattle.std.specs.FinMap as finite
use Rattle.std.specs.FinSet as set
use Rattle.std.specs.FinMap.Entries.{is_sorted, below_all, find}
use Rattle.std.proofs.lemmas.Bool.{and_parts, eqb-true, eq-eqb}
use Rattle.std.proofs.lemmas.Cmp.{ranked}
use Rattle.std.proofs.lemmas.List.Filters.{dedup_is}
use Rattle.std.proofs.lemmas.List.Kept.{IsStrictlySortedBy-dedup}
use Rattle.std.proofs.lemmas.List.Sorted.{list_any-IsPermutation}
use Rattle.id_sets.specs.Ascending.{AllAbove, IsAscending}
use Rattle.id_sets.specs.Lists.{holds}
use Rattle.id_sets.proofs.Ascending.{ascending_same}
use Rattle.directory.specs.inner.IndexRows.{ascending}

-- ---- the numbers of a list, ascending

pub is_true : (b : Bool) → T b → b ≡ true
is_true true h = refl
is_true false h = absurd h

less_is : (x y : ℕ) → nat_cmp x y ≡ Less → x < y
less_is x y h = ranked x y Less (sym h)

lt_is : (o : Ordering) → is_lt o ≡ true → o ≡ Less
lt_is Less h = refl
lt_is Equal h = cc
lt_is Greater h = cc

above_all : (x : ℕ) (es : List (ℕ × Unit {0})) → below_all nat_cmp x es ≡ true → AllAbove x (map (λ e. e.0) es)
above_all x [] h = tt
above_all x (e ∷ es) h =
    let parts = and_parts (is_lt (nat_cmp x e.0)) (below_all nat_cmp x es) h in
    (less_is x e.0 (lt_is (nat_cmp x e.0) parts.0), above_all x es parts.1)

rise : (es : List (ℕ × Unit {0})) → is_sorted nat_cmp es ≡ true → IsAscending (map (λ e. e.0) es)
rise [] h = tt
rise (e ∷ es) h =
    let parts = and_parts (below_all nat_cmp e.0 es) (is_sorted nat_cmp es) h in
    (above_all e.0 es parts.0, rise es parts.1)

abbrev pub marked : List ℕ → List (ℕ × Unit {0})
marked ns = map (λ n. (n, tt)) ns

found_is : (ns : List ℕ) (q : ℕ) → is_some (find nat_cmp q (marked ns)) ≡ holds ns q
found_is [] q = refl
found_is (n ∷ ns) q =
    by (eq_by_cmp nat_cmp q n)
    ∙ ap (λ b. b || is_some (find nat_cmp q (marked ns))) (unsigned_tied q n ∙ nat_eq_equiv.symm q n)
    ∙ ap (λ b. nat_eq n q || b) (found_is ns q)
  where
    by : (b : Bool) → is_some (cond b (Some tt) (find nat_cmp q (marked ns))) ≡ (b || is_some (find nat_cmp q (marked ns)))
    by true = refl
    by false = refl

pub ascending_rises : (ns : List ℕ) → IsAscending (ascending ns)
ascending_rises ns = rise (finite.entries (finite.from_entries (marked ns))) (is_true _ (finite.entries_sorted (finite.from_entries (marked ns))))

turned : (q : ℕ) (xs : List ℕ) → list_any (eq_by_cmp nat_cmp q) xs ≡ holds xs q
turned q [] = refl
turned q (x ∷ xs) = λ i. (unsigned_tied q x ∙ nat_eq_equiv.symm q x) i || turned q xs i

pub ascending_holds : (ns : List ℕ) (q : ℕ) → holds (ascending ns) q ≡ holds ns q
ascending_holds ns q =
    sym (finite.contains_key-keys (finite.from_entries (marked ns)) q ∙ turned q (ascending ns))
    ∙ ap is_some (finite.get-from_entries nat_cmp_total (marked ns) q)
    ∙ found_is ns q

pub ascending_is : (xs ns : List ℕ) → IsAscending xs → ((q : ℕ) → holds xs q ≡ holds ns q) → xs ≡ ascending ns
ascending_is xs ns up same = ascending_same xs (ascending ns) up (ascending_rises ns) (λ q. same q ∙ sym (ascending_holds ns q))

-- ---- sorted numbers, each once

above_from : (x : ℕ) (xs : List ℕ) → AllByRecursion (λ y. nat_cmp x y ≡ Less) xs → AllAbove x xs
above_from x [] h = tt
above_from x (y ∷ ys) h = (less_is x y h.0, above_from x ys h.1)

ascending_from : (xs : List ℕ) → IsStrictlySortedBy nat_cmp xs → IsAscending xs
unfolding IsStrictlySortedBy
ascending_from [] h = tt
ascending_from (x ∷ xs) h = (above_from x xs h.0, ascending_from xs h.1)

once : (a b : Bool) → (a || b) ≡ (a || (a || b))
once true b = refl
once false b = refl

holds_behind : (k : ℕ) (xs : List ℕ) (q : ℕ) → holds (dedup nat_eq (k ∷ xs)) q ≡ (nat_eq k q || holds xs q)
holds_behind k [] q = refl
holds_behind k (x ∷ xs) q = by (nat_eq x k) refl (holds_behind k xs q) (holds_behind x xs q)
  where
    by : (b : Bool) → nat_eq x k ≡ b → holds (dedup nat_eq (k ∷ xs)) q ≡ (nat_eq k q || holds xs q) → holds (dedup nat_eq (x ∷ xs)) q ≡ (nat_eq x q || holds xs q)
        → holds (cond b (dedup nat_eq (k ∷ xs)) (k ∷ dedup nat_eq (x ∷ xs))) q ≡ (nat_eq k q || (nat_eq x q || holds xs q))
    by true same first second = first ∙ once (nat_eq k q) (holds xs q) ∙ ap (λ (y : ℕ). nat_eq k q || (nat_eq y q || holds xs q)) (sym (eqb-true x k same))
    by false apart first second = ap (λ b. nat_eq k q || b) second

holds_dedup : (xs : List ℕ) (q : ℕ) → holds (dedup nat_eq xs) q ≡ holds xs q
holds_dedup [] q = refl
holds_dedup (x ∷ xs) q = holds_behind x xs q

pub sorted_is : (xs sorted kept : List ℕ) → IsPermutation xs sorted → IsSorted nat_cmp sorted → IsFiltered (DiffersFromLast nat_eq) [] sorted kept → kept ≡ ascending xs
sorted_is xs sorted kept moved in_order filtered =
    dedup_is nat_eq sorted kept filtered
    ∙ ascending_is (dedup nat_eq sorted) xs
    (ascending_from (dedup nat_eq sorted) (IsStrictlySortedBy-dedup nat_cmp_total (λ x y. sym (unsigned_tied x y)) sorted in_order))
    (λ q. holds_dedup sorted q ∙ sym (list_any-IsPermutation (λ y. nat_eq y q) xs sorted moved))

-- ---- numbers of a set

pub any_map : {A B : Type 0} (f : A → B) (p : B → Bool) (xs : List A) → list_any p (map f xs) ≡ list_any (λ x. p (f x)) xs
any_map f p [] = refl
any_map f p (x ∷ xs) = ap (λ b. p (f x) || b) (any_map f p xs)

or_true : (b : Bool) → (b || true) ≡ true
or_true true = refl
or_true false = refl

-- a test that a number of a list passes
pub member_passes : (p : ℕ → Bool) (xs : List ℕ) (n : ℕ) → holds xs n ≡ true → p n ≡ true → list_any p xs ≡ true
member_passes p [] n has h = cc
member_passes p (x ∷ xs) n has h = by (nat_eq x n) refl has (member_passes p xs n)
  where
    by : (b : Bool) → nat_eq x n ≡ b → (b || holds xs n) ≡ true → (holds xs n ≡ true → p n ≡ true → list_any p xs ≡ true) → (p x || list_any p xs) ≡ true
    by true same _ _ = ap (λ b. b || list_any p xs) (ap p (eqb-true x n same) ∙ h)
    by false apart later rest = ap (λ b. p x || b) (rest later h) ∙ or_true (p x)

pub same_answer : (a b : Bool) → (a ≡ true → b ≡ true) → (b ≡ true → a ≡ true) → a ≡ b
same_answer true b there back = sym (there refl)
same_answer false true there back = back refl
same_answer false false there back = refl

passed : (p : ℕ → Bool) (xs ys : List ℕ) → ((n : ℕ) → holds xs n ≡ true → holds ys n ≡ true) → list_any p xs ≡ true → list_any p ys ≡ true
passed p [] ys among h = cc
passed p (x ∷ xs) ys among h = by (p x) refl h (passed p xs ys (λ n has. among n (ap (λ b. nat_eq x n || b) has ∙ or_true (nat_eq x n))))
  where
    by : (b : Bool) → p x ≡ b → (b || list_any p xs) ≡ true → (list_any p xs ≡ true → list_any p ys ≡ true) → list_any p ys ≡ true
    by true h _ _ = member_passes p ys x (among x (ap (λ b. b || holds xs x) (eq-eqb x x refl))) h
    by false _ later rest = rest later

-- lists of the same numbers pass a test alike
same_any : (p : ℕ → Bool) (xs ys : List ℕ) → ((n : ℕ) → holds xs n ≡ holds ys n) → list_any p xs ≡ list_any p ys
same_any p xs ys same = same_answer (list_any p xs) (list_any p ys) (passed p xs ys (λ n h. sym (same n) ∙ h)) (passed p ys xs (λ n h. same n ∙ h))

pub items_hold : (s : set.FinSet nat_cmp) (n : ℕ) → holds (set.items s) n ≡ set.contains s n
items_hold s n = sym (turned n (set.items s)) ∙ sym (set.contains-items s n)

-- the numbers of a set, in the order of a list of them
pub of_items : (f : ℕ → ℕ) (ns : List ℕ) (s : set.FinSet nat_cmp) → set.from_list {R = nat_cmp} ns ≡ s → ascending (map f ns) ≡ ascending (map f (set.items s))
of_items f ns s is = ascending_is (ascending (map f ns)) (map f (set.items s)) (ascending_rises (map f ns)) (λ q.
    ascending_holds (map f ns) q
    ∙ any_map f (λ y. nat_eq y q) ns
    ∙ same_any (λ n. nat_eq (f n) q) ns (set.items s) (λ n. sym (items_hold s n ∙ ap (λ (r : set.FinSet nat_cmp). set.contains r n) (sym is) ∙ set.contains-from_list_nat ns n))
    ∙ sym (any_map f (λ y. nat_eq y q) (set.items s)))

-- of the numbers of a set, all of which are among others, and of those others that it has
pub among_others : (test p : ℕ → Bool) (s : set.FinSet nat_cmp) (ns : List ℕ) → ((n : ℕ) → set.contains s n ≡ test n) → ((n : ℕ) → test n ≡ true → holds ns n ≡ true)
    → list_any (λ n. test n && p n) ns ≡ list_any p (set.items s)
among_others test p s ns has listed = same_answer (list_any (λ n. test n && p n) ns) (list_any p (set.items s)) (there ns) (back (set.items s) (λ n h. sym (has n) ∙ sym (items_hold s n) ∙ h))
  where
    there : (ms : List ℕ) → list_any (λ n. test n && p n) ms ≡ true → list_any p (set.items s) ≡ true
    there [] h = cc
    there (m ∷ ms) h = by (test m) (p m) refl refl h (there ms)
      where
        by : (a b : Bool) → test m ≡ a → p m ≡ b → ((a && b) || list_any (λ n. test n && p n) ms) ≡ true → (list_any (λ n. test n && p n) ms ≡ true → list_any p (set.items s) ≡ true) → list_any p (set.items s) ≡ true
        by true true a b _ _ = member_passes p (set.items s) m (items_hold s m ∙ has m ∙ a) b
        by true false a b later rest = rest later
        by false b _ _ later rest = rest later

    back : (ms : List ℕ) → ((n : ℕ) → holds ms n ≡ true → test n ≡ true) → list_any p ms ≡ true → list_any (λ n. test n && p n) ns ≡ true
    back [] own h = cc
    back (m ∷ ms) own h = by (p m) refl h (back ms (λ n has. own n (ap (λ b. nat_eq m n || b) has ∙ or_true (nat_eq m n))))
      where
        m_has : test m ≡ true
        m_has = own m (ap (λ b. b || holds ms m) (eq-eqb m m refl))

        by : (b : Bool) → p m ≡ b → (b || list_any p ms) ≡ true → (list_any p ms ≡ true → list_any (λ n. test n && p n) ns ≡ true) → list_any (λ n. test n && p n) ns ≡ true
        by true h _ _ = member_passes (λ n. test n && p n) ns m (listed m m_has) (ap (λ b. b && p m) m_has ∙ h)
        by false _ later rest = rest later
