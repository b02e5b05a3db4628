-- What is picked by candidates is found as if all entries were gone through.
use Rattle.std.proofs.Common.{◌≡◌, ℕ, zero, suc, ◌+◌, ◌-◌, ◌≤◌, ◌<◌, Bool, true, false, cond, List, [], ◌∷◌, map, length, take, drop, get_or, nat_eq, refl, sym, ap, subst, ◌∙◌, arith}
use Rattle.std.specs.Prelude.{filter, ◌&&◌}
use Rattle.std.specs.Borrow.{Bor}
use Rattle.std.specs.List.{AllByRecursion}
use Rattle.std.specs.FinMap as finite
use Rattle.std.specs.FinSet.{FinSet, contains}
use Rattle.std.specs.Ordering.{nat_cmp}
use Rattle.std.proofs.lemmas.Bool.{eqb-true}
use Rattle.std.proofs.lemmas.Bool.Decides.{nat_tests}
use Rattle.std.proofs.lemmas.List.{take_rest}
use Rattle.id_sets.specs.Walk.{HasNoneFrom, IsFirstFrom}
use Rattle.paths.specs.Paths.{Path, begins}
use Rattle.values.specs.declared.types.AttributeType.{AttributeType}
use Rattle.entries.specs.Entries.{EntryContent}
use Rattle.entries.specs.StoredEntries.{Entry, attributes_of, IsMade}
use Rattle.tree.specs.Trees.{Tree, Placed, unnumbered, seen_entries}
use Rattle.filter_text.specs.Spells as texts
use Rattle.filter.specs.Truths.{is_true}
use Rattle.filter.specs.Filters.{truth}
use Rattle.paths.specs.declared.scope.Scope.{Scope}
use Rattle.paths.specs.Scopes.{depth_fits}
use Rattle.databases.specs.declared.numbering.Numbering.TheVariants.{InDump}
use Rattle.databases.specs.Ranks.{rank_in}
use Rattle.databases.specs.Scanned.{is_tested, counted_by}
use Rattle.databases.specs.Walks.{AreMade, counted, lent, tested_in_all}
use Rattle.databases.specs.inner.Marks.{MarkedEntry, marked}
use Rattle.databases.specs.inner.Picks.{lent_entries, picked, as_candidate, HasNoneIn, IsFirstOf}
use Rattle.databases.proofs.Places.{AreRanked, base_ranked}
use Rattle.databases.proofs.Scans.{seen_marked, marked_seen, AreMarked, by_ranks, steps_are, tested_are, lent_made}

-- ---- the first that passes a test

pub first_below : (members : FinSet nat_cmp) (from end n : ℕ) → IsFirstFrom members from n → n < end → IsFirstOf (contains members) from end n
first_below members from end n first below = record { reached = first.reached; within = below; passes = first.member; before = record { none = first.none_before } }

pub none_from : (members : FinSet nat_cmp) (from end : ℕ) → HasNoneFrom members from → HasNoneIn (contains members) from end
none_from members from end none = record { none = λ q reached before. none.none q reached }

pub none_below : (members : FinSet nat_cmp) (from end n : ℕ) → IsFirstFrom members from n → end ≤ n → HasNoneIn (contains members) from end
none_below members from end n first past = record { none = λ q reached before. first.none_before q reached (omega (arith, before, past)) }

other_below : (q n : ℕ) → q < n + 1 → nat_eq q n ≡ false → q < n
other_below q n before apart = grind (arith, nat_tests)

-- one more that doesn't
pub none_so_far : (test : ℕ → Bool) (from n : ℕ) → HasNoneIn test from n → test n ≡ false → HasNoneIn test from (n + 1)
none_so_far test from n none fails = record { none = λ q reached before. by q (nat_eq q n) refl reached before }
  where
    by : (q : ℕ) (b : Bool) → nat_eq q n ≡ b → from ≤ q → q < n + 1 → test q ≡ false
    by q true same reached before = ap test (eqb-true q n same) ∙ fails
    by q false apart reached before = none.none q reached (other_below q n before apart)

-- ---- one step

-- the next is the first whose rank passes the test
next_picked : (test : ℕ → Bool) (rank k : ℕ) (es : List (Bor Path × Bor Entry)) (d : Bor Path × Bor Entry) → HasNoneIn test rank (rank + k) → test (rank + k) ≡ true → k < length es
    → picked test rank (lent_entries es) ≡ ((get_or es k d).0.now, (get_or es k d).1.now) ∷ picked test (rank + k + 1) (lent_entries (drop (suc k) es))
next_picked test rank k [] d none passes within = absurd (omega (arith, within))
next_picked test rank zero (e ∷ es) d none passes within =
    let here : test rank ≡ true = subst (λ (n : ℕ). test n ≡ true) (let same : rank + 0 ≡ rank = omega arith in same) passes in
    ap (λ b. cond b ((e.0.now, e.1.now) ∷ picked test (rank + 1) (lent_entries es)) (picked test (rank + 1) (lent_entries es))) here
    ∙ ap (λ (n : ℕ). (e.0.now, e.1.now) ∷ picked test n (lent_entries es)) (let same : rank + 1 ≡ rank + 0 + 1 = omega arith in same)
next_picked test rank (suc k) (e ∷ es) d none passes within =
    let later : rank + 1 + k ≡ rank + suc k = omega arith in
    ap (λ b. cond b ((e.0.now, e.1.now) ∷ picked test (rank + 1) (lent_entries es)) (picked test (rank + 1) (lent_entries es))) (none.none rank (omega arith) (omega arith))
    ∙ next_picked test (rank + 1) k es d (record { none = λ q from before. none.none q (omega (arith, from)) (omega (arith, before)) }) (subst (λ (n : ℕ). test n ≡ true) (sym later) passes) (omega (arith, within))
    ∙ ap (λ (n : ℕ). ((get_or es k d).0.now, (get_or es k d).1.now) ∷ picked test (n + 1) (lent_entries (drop (suc k) es))) later

pub first_picked : (test : ℕ → Bool) (rank end n : ℕ) (es : List (Bor Path × Bor Entry)) (d : Bor Path × Bor Entry) → end ≡ rank + length es → IsFirstOf test rank end n
    → picked test rank (lent_entries es)
    ≡ ((get_or es (n - rank) d).0.now, (get_or es (n - rank) d).1.now) ∷ picked test (n + 1) (lent_entries (take (length es - (n - rank + 1)) (drop (n - rank + 1) es)))
first_picked test rank end n es d is first =
    let reached = first.reached in
    let within = first.within in
    let place : rank + (n - rank) ≡ n = omega (arith, reached) in
    next_picked test rank (n - rank) es d (subst (HasNoneIn test rank) (sym place) first.before) (subst (λ (m : ℕ). test m ≡ true) (sym place) first.passes) (omega (arith, reached, within, is))
    ∙ ap (λ (m : ℕ). ((get_or es (n - rank) d).0.now, (get_or es (n - rank) d).1.now) ∷ picked test (m + 1) (lent_entries (drop (suc (n - rank)) es))) place
    ∙ ap (λ (m : ℕ). ((get_or es (n - rank) d).0.now, (get_or es (n - rank) d).1.now) ∷ picked test (n + 1) (lent_entries (drop m es))) (let same : suc (n - rank) ≡ n - rank + 1 = omega arith in same)
    ∙ ap (λ (xs : List (Bor Path × Bor Entry)). ((get_or es (n - rank) d).0.now, (get_or es (n - rank) d).1.now) ∷ picked test (n + 1) (lent_entries xs)) (sym (take_rest es (n - rank + 1)))

pub none_picked : (test : ℕ → Bool) (rank end : ℕ) (es : List (Bor Path × Bor Entry)) → end ≡ rank + length es → HasNoneIn test rank end → picked test rank (lent_entries es) ≡ []
none_picked test rank end [] is none = refl
none_picked test rank end (e ∷ es) is none =
    ap (λ b. cond b ((e.0.now, e.1.now) ∷ picked test (rank + 1) (lent_entries es)) (picked test (rank + 1) (lent_entries es))) (none.none rank (omega arith) (omega (arith, is)))
    ∙ none_picked test (rank + 1) end es (omega (arith, is)) (record { none = λ q from before. none.none q (omega (arith, from)) before })

-- ---- as if each had been gone through

-- a number of which nothing is asked, since ranks count
abbrev placed : Path × Entry → Placed
placed e = record { path = e.0; number = 0; entry = e.1 }

unplaced : (es : List (Path × Entry)) → map unnumbered (map placed es) ≡ es
unplaced [] = refl
unplaced (e ∷ es) = ap (λ (xs : List (Path × Entry)). e ∷ xs) (unplaced es)

module _ (test : ℕ → Bool) where
  -- all of them, each with whether its rank passes the test
  abbrev all_marked : ℕ → List (Path × Entry) → List MarkedEntry
  all_marked rank es = marked test InDump rank (map placed es)

  lent_picked : (types : List AttributeType) (scope : Scope) (base : ℕ) (f : texts.FilterContent) (n rank : ℕ) (es : List (Path × Entry))
      → lent types scope base f n (map as_candidate (picked test rank es)) ≡ lent types scope base f n (all_marked rank es)
  lent_picked types scope base f n rank [] = refl
  lent_picked types scope base f n rank (e ∷ es) = by (test rank) (λ k. lent_picked types scope base f k (rank + 1) es)
    where
      by : (b : Bool) → ((k : ℕ) → lent types scope base f k (map as_candidate (picked test (rank + 1) es)) ≡ lent types scope base f k (all_marked (rank + 1) es))
          → lent types scope base f n (map as_candidate (cond b (e ∷ picked test (rank + 1) es) (picked test (rank + 1) es)))
          ≡ cond (b && depth_fits scope base (length e.0))
          (cond (is_true (truth types (attributes_of e.1.attrs) f)) (record { tested = n + 1; path = e.0; entry = e.1 } ∷ lent types scope base f (n + 1) (all_marked (rank + 1) es)) (lent types scope base f (n + 1) (all_marked (rank + 1) es)))
          (lent types scope base f n (all_marked (rank + 1) es))
      by true more = λ i. cond (depth_fits scope base (length e.0)) (cond (is_true (truth types (attributes_of e.1.attrs) f)) (record { tested = n + 1; path = e.0; entry = e.1 } ∷ more (n + 1) i) (more (n + 1) i)) (more n i)
      by false more = more n

  tested_picked : (scope : Scope) (base n rank : ℕ) (es : List (Path × Entry)) → tested_in_all scope base n (map as_candidate (picked test rank es)) ≡ tested_in_all scope base n (all_marked rank es)
  tested_picked scope base n rank [] = refl
  tested_picked scope base n rank (e ∷ es) = by (test rank) (λ k. tested_picked scope base k (rank + 1) es)
    where
      by : (b : Bool) → ((k : ℕ) → tested_in_all scope base k (map as_candidate (picked test (rank + 1) es)) ≡ tested_in_all scope base k (all_marked (rank + 1) es))
          → tested_in_all scope base n (map as_candidate (cond b (e ∷ picked test (rank + 1) es) (picked test (rank + 1) es)))
          ≡ cond (b && depth_fits scope base (length e.0)) (tested_in_all scope base (n + 1) (all_marked (rank + 1) es)) (tested_in_all scope base n (all_marked (rank + 1) es))
      by true more = λ i. cond (depth_fits scope base (length e.0)) (more (n + 1) i) (more n i)
      by false more = more n

  -- ---- at a base and below it

  module _ (d : Tree) (base : Path) (rank : ℕ) (es : List (Path × Entry)) (first : rank ≡ rank_in d.entries base) (below : seen_entries es ≡ filter (λ e. begins base e.0) (finite.entries d.entries)) where
    abbrev is_candidate : Path → Bool
    is_candidate p = test (rank_in d.entries p)

    same_seen : seen_entries (map unnumbered (map placed es)) ≡ filter (λ e. begins base e.0) (finite.entries d.entries)
    same_seen = ap seen_entries (unplaced es) ∙ below

    marks : AreMarked is_candidate (all_marked rank es)
    marks = by_ranks test d rank (map placed es)
        (subst (AreRanked (rank_in d.entries) rank) (sym same_seen) (subst (λ (n : ℕ). AreRanked (rank_in d.entries) n (filter (λ e. begins base e.0) (finite.entries d.entries))) (sym first) (base_ranked d.entries base)))

    seen : seen_marked (all_marked rank es) ≡ filter (λ e. begins base e.0) (finite.entries d.entries)
    seen = marked_seen test InDump rank (map placed es) ∙ same_seen

    pub picked_steps : (types : List AttributeType) (scope : Scope) (f : texts.FilterContent)
        → map counted (lent types scope (length base) f 0 (map as_candidate (picked test rank es))) ≡ counted_by (is_tested is_candidate scope base) (λ (e : Path × EntryContent). is_true (truth types e.1.attrs f)) 0 (finite.entries d.entries)
    picked_steps types scope f = ap (map counted) (lent_picked types scope (length base) f 0 rank es) ∙ steps_are scope base is_candidate types f (all_marked rank es) (finite.entries d.entries) marks seen

    pub picked_tested : (scope : Scope) → tested_in_all scope (length base) 0 (map as_candidate (picked test rank es)) ≡ length (filter (is_tested is_candidate scope base) (finite.entries d.entries))
    picked_tested scope = tested_picked scope (length base) 0 rank es ∙ tested_are scope base is_candidate (all_marked rank es) (finite.entries d.entries) marks seen

-- ---- what is picked was made

pub picked_made : (types : List AttributeType) (test : ℕ → Bool) (rank : ℕ) (es : List (Bor Path × Bor Entry)) → AllByRecursion (λ e. IsMade types e.1.now.attrs) es
    → AllByRecursion (λ (e : MarkedEntry). IsMade types e.entry.attrs) (map as_candidate (picked test rank (lent_entries es)))
picked_made types test rank [] made = tt
picked_made types test rank (e ∷ es) made = by (test rank) (picked_made types test (rank + 1) es made.1)
  where
    by : (b : Bool) → AllByRecursion (λ (e : MarkedEntry). IsMade types e.entry.attrs) (map as_candidate (picked test (rank + 1) (lent_entries es)))
        → AllByRecursion (λ (e : MarkedEntry). IsMade types e.entry.attrs) (map as_candidate (cond b ((e.0.now, e.1.now) ∷ picked test (rank + 1) (lent_entries es)) (picked test (rank + 1) (lent_entries es))))
    by true more = (made.0, more)
    by false more = more

-- no more are picked than there are
pub picked_length : (test : ℕ → Bool) (rank : ℕ) (es : List (Bor Path × Bor Entry)) → length (map as_candidate (picked test rank (lent_entries es))) ≤ length es
picked_length test rank [] = omega arith
picked_length test rank (e ∷ es) = by (test rank) (picked_length test (rank + 1) es)
  where
    by : (b : Bool) → length (map as_candidate (picked test (rank + 1) (lent_entries es))) ≤ length es
        → length (map as_candidate (cond b ((e.0.now, e.1.now) ∷ picked test (rank + 1) (lent_entries es)) (picked test (rank + 1) (lent_entries es)))) ≤ length (e ∷ es)
    by true fits = omega (arith, fits)
    by false fits = omega (arith, fits)
