-- What a walk lends is what a scan among the candidates finds.
use Rattle.std.proofs.Common.{◌≡◌, ℕ, ◌+◌, ◌≤◌, ◌<◌, ◌^◌, Bool, true, false, cond, List, [], ◌∷◌, map, length, Some, refl, sym, ap, subst, ◌∙◌, arith}
use Rattle.std.specs.Prelude.{filter, ◌&&◌}
use Rattle.std.specs.List.{AllByRecursion}
use Rattle.std.specs.FinMap as finite
use Rattle.paths.specs.Paths.{Path, path_cmp, begins}
use Rattle.values.specs.declared.types.AttributeType.{AttributeType}
use Rattle.schema.specs.Conf.{Conf}
use Rattle.entries.specs.Entries.{EntryContent}
use Rattle.tree.specs.Directories.{Entries}
use Rattle.entries.specs.StoredEntries.{content_of, attributes_of, IsMade}
use Rattle.tree.specs.Trees.{Tree, Placed, unnumbered, seen_entries, number_at}
use Rattle.tree.proofs.Order.{path_total}
use Rattle.tree.proofs.Views.{all_found}
use Rattle.filter_text.specs.Spells as texts
use Rattle.filter.specs.Truths.{is_true}
use Rattle.filter.specs.Filters.{truth}
use Rattle.databases.specs.declared.numbering.Numbering.{Numbering}
use Rattle.databases.specs.declared.numbering.Numbering.TheVariants.{InTree, InDump}
use Rattle.paths.specs.declared.scope.Scope.{Scope}
use Rattle.databases.specs.Ranks.{rank_in}
use Rattle.paths.specs.Scopes.{depth_fits, is_in_scope}
use Rattle.databases.specs.Scanned.{scan, count_in_scope, is_tested, scan_among, count_among, counted_by}
use Rattle.databases.specs.Walks.{Lent, AreMade, seen, counted, lent, tested_in_all}
use Rattle.databases.specs.inner.Marks.{MarkedEntry, number_by, first_rank, marked}
use Rattle.databases.proofs.Places.{AreRanked, before, base_ranked, before_and_below}

-- ---- tests of lists

same_filter : {A : Type 0} (p q : A → Bool) → ((x : A) → p x ≡ q x) → (xs : List A) → filter p xs ≡ filter q xs
same_filter p q same [] = refl
same_filter p q same (x ∷ xs) = λ i. cond (same x i) (x ∷ same_filter p q same xs i) (same_filter p q same xs i)

module _ {A : Type 0} (p q r : A → Bool) where
  counted_in : (n : ℕ) (xs : List A) → counted_by q r n (filter p xs) ≡ counted_by (λ x. p x && q x) r n xs
  counted_in n [] = refl
  counted_in n (x ∷ xs) = by (p x) (λ k. counted_in k xs)
    where
      by : (a : Bool) → ((k : ℕ) → counted_by q r k (filter p xs) ≡ counted_by (λ x. p x && q x) r k xs)
          → counted_by q r n (cond a (x ∷ filter p xs) (filter p xs))
          ≡ cond (a && q x) (cond (r x) ((n + 1, x) ∷ counted_by (λ x. p x && q x) r (n + 1) xs) (counted_by (λ x. p x && q x) r (n + 1) xs)) (counted_by (λ x. p x && q x) r n xs)
      by true more = λ i. cond (q x) (cond (r x) ((n + 1, x) ∷ more (n + 1) i) (more (n + 1) i)) (more n i)
      by false more = more n

  filter_in : (xs : List A) → filter q (filter p xs) ≡ filter (λ x. p x && q x) xs
  filter_in [] = refl
  filter_in (x ∷ xs) = by (p x) (filter_in xs)
    where
      by : (b : Bool) → filter q (filter p xs) ≡ filter (λ x. p x && q x) xs → filter q (cond b (x ∷ filter p xs) (filter p xs)) ≡ cond (b && q x) (x ∷ filter (λ x. p x && q x) xs) (filter (λ x. p x && q x) xs)
      by true same = ap (λ ys. cond (q x) (x ∷ ys) ys) same
      by false same = same

same_counted : {A : Type 0} (p q r : A → Bool) → ((x : A) → p x ≡ q x) → (n : ℕ) (xs : List A) → counted_by p r n xs ≡ counted_by q r n xs
same_counted p q r same n [] = refl
same_counted p q r same n (x ∷ xs) = λ i. cond (same x i) (cond (r x) ((n + 1, x) ∷ same_counted p q r same (n + 1) xs i) (same_counted p q r same (n + 1) xs i)) (same_counted p q r same n xs i)

-- without the counts
uncounted : {A : Type 0} (p r : A → Bool) (n : ℕ) (xs : List A) → map (λ (x : ℕ × A). x.1) (counted_by p r n xs) ≡ filter (λ x. p x && r x) xs
uncounted p r n [] = refl
uncounted {A} p r n (x ∷ xs) = by (p x) (r x) (λ k. uncounted p r k xs)
  where
    by : (a b : Bool) → ((k : ℕ) → map (λ (y : ℕ × A). y.1) (counted_by p r k xs) ≡ filter (λ x. p x && r x) xs)
        → map (λ (y : ℕ × A). y.1) (cond a (cond b ((n + 1, x) ∷ counted_by p r (n + 1) xs) (counted_by p r (n + 1) xs)) (counted_by p r n xs)) ≡ cond (a && b) (x ∷ filter (λ x. p x && r x) xs) (filter (λ x. p x && r x) xs)
    by true true more = ap (λ ys. x ∷ ys) (more (n + 1))
    by true false more = more (n + 1)
    by false b more = more n

grouped : (a b c : Bool) → a && (c && b) ≡ (a && b) && c
grouped true true true = refl
grouped true true false = refl
grouped true false true = refl
grouped true false false = refl
grouped false b c = refl

-- ---- marked entries

abbrev pub seen_marked : List MarkedEntry → List (Path × EntryContent)
seen_marked es = map (λ e. (e.path, content_of e.entry)) es

-- each is marked by its path
abbrev pub AreMarked : (Path → Bool) → List MarkedEntry → Type 0
AreMarked is_candidate es = AllByRecursion (λ (e : MarkedEntry). e.is_candidate ≡ is_candidate e.path) es

module _ (scope : Scope) (base : Path) (is_candidate : Path → Bool) where
  -- of what the base begins, what is tested
  abbrev tests : Path × EntryContent → Bool
  tests e = is_candidate e.0 && depth_fits scope (length base) (length e.0)

  told : (e : Path × EntryContent) → begins base e.0 && tests e ≡ is_tested is_candidate scope base e
  told e = grouped (begins base e.0) (depth_fits scope (length base) (length e.0)) (is_candidate e.0)

  module _ (types : List AttributeType) (f : texts.FilterContent) where
    abbrev hits : Path × EntryContent → Bool
    hits e = is_true (truth types e.1.attrs f)

    lent_is : (n : ℕ) (es : List MarkedEntry) → AreMarked is_candidate es → map counted (lent types scope (length base) f n es) ≡ counted_by tests hits n (seen_marked es)
    lent_is n [] marks = refl
    lent_is n (e ∷ es) marks =
        ap (λ m. map counted (cond (m && depth_fits scope (length base) (length e.path)) (cond (is_true (truth types (attributes_of e.entry.attrs) f)) (record { tested = n + 1; path = e.path; entry = e.entry } ∷ lent types scope (length base) f (n + 1) es) (lent types scope (length base) f (n + 1) es)) (lent types scope (length base) f n es))) marks.0
        ∙ by (is_candidate e.path && depth_fits scope (length base) (length e.path)) (is_true (truth types (attributes_of e.entry.attrs) f)) (λ k. lent_is k es marks.1)
      where
        by : (a b : Bool) → ((k : ℕ) → map counted (lent types scope (length base) f k es) ≡ counted_by tests hits k (seen_marked es))
            → map counted (cond a (cond b (record { tested = n + 1; path = e.path; entry = e.entry } ∷ lent types scope (length base) f (n + 1) es) (lent types scope (length base) f (n + 1) es)) (lent types scope (length base) f n es))
            ≡ cond a (cond b ((n + 1, (e.path, content_of e.entry)) ∷ counted_by tests hits (n + 1) (seen_marked es)) (counted_by tests hits (n + 1) (seen_marked es))) (counted_by tests hits n (seen_marked es))
        by true true rest = ap (λ xs. (n + 1, (e.path, content_of e.entry)) ∷ xs) (rest (n + 1))
        by true false rest = rest (n + 1)
        by false b rest = rest n

    pub steps_are : (es : List MarkedEntry) (all : List (Path × EntryContent)) → AreMarked is_candidate es → seen_marked es ≡ filter (λ e. begins base e.0) all
        → map counted (lent types scope (length base) f 0 es) ≡ counted_by (is_tested is_candidate scope base) hits 0 all
    steps_are es all marks is =
        lent_is 0 es marks
        ∙ ap (counted_by tests hits 0) is
        ∙ counted_in (λ (e : Path × EntryContent). begins base e.0) tests hits 0 all
        ∙ same_counted (λ (e : Path × EntryContent). begins base e.0 && tests e) (is_tested is_candidate scope base) hits told 0 all

    pub found_are : (ls : List Lent) (all : List (Path × EntryContent)) → map counted ls ≡ counted_by (is_tested is_candidate scope base) hits 0 all
        → map seen ls ≡ filter (λ e. is_tested is_candidate scope base e && hits e) all
    found_are ls all is = sym (without ls) ∙ ap (map (λ (x : ℕ × (Path × EntryContent)). x.1)) is ∙ uncounted (is_tested is_candidate scope base) hits 0 all
      where
        without : (ls : List Lent) → map (λ (x : ℕ × (Path × EntryContent)). x.1) (map counted ls) ≡ map seen ls
        without [] = refl
        without (l ∷ ls) = ap (λ xs. seen l ∷ xs) (without ls)

  count_is : (n : ℕ) (es : List MarkedEntry) → AreMarked is_candidate es → tested_in_all scope (length base) n es ≡ n + length (filter tests (seen_marked es))
  count_is n [] marks = omega arith
  count_is n (e ∷ es) marks =
      ap (λ m. cond (m && depth_fits scope (length base) (length e.path)) (tested_in_all scope (length base) (n + 1) es) (tested_in_all scope (length base) n es)) marks.0
      ∙ by (is_candidate e.path && depth_fits scope (length base) (length e.path)) (λ k. count_is k es marks.1)
    where
      by : (a : Bool) → ((k : ℕ) → tested_in_all scope (length base) k es ≡ k + length (filter tests (seen_marked es))) → cond a (tested_in_all scope (length base) (n + 1) es) (tested_in_all scope (length base) n es) ≡ n + length (cond a ((e.path, content_of e.entry) ∷ filter tests (seen_marked es)) (filter tests (seen_marked es)))
      by true rest = let k = rest (n + 1) in omega (arith, k)
      by false rest = rest n

  pub tested_are : (es : List MarkedEntry) (all : List (Path × EntryContent)) → AreMarked is_candidate es → seen_marked es ≡ filter (λ e. begins base e.0) all
      → tested_in_all scope (length base) 0 es ≡ length (filter (is_tested is_candidate scope base) all)
  tested_are es all marks is =
      (let k = count_is 0 es marks in omega (arith, k))
      ∙ ap length (ap (filter tests) is ∙ filter_in (λ (e : Path × EntryContent). begins base e.0) tests tests all ∙ same_filter (λ (e : Path × EntryContent). begins base e.0 && tests e) (is_tested is_candidate scope base) told all)

-- ---- entries with their numbers

module _ (test : ℕ → Bool) (numbering : Numbering) where
  pub marked_seen : (rank : ℕ) (es : List Placed) → seen_marked (marked test numbering rank es) ≡ seen_entries (map unnumbered es)
  marked_seen rank [] = refl
  marked_seen rank (e ∷ es) = ap (λ xs. (e.path, content_of e.entry) ∷ xs) (marked_seen (rank + 1) es)

  pub marked_made : (types : List AttributeType) (rank : ℕ) (es : List Placed) → AllByRecursion (λ (e : Placed). IsMade types e.entry.attrs) es → AllByRecursion (λ (e : MarkedEntry). IsMade types e.entry.attrs) (marked test numbering rank es)
  marked_made types rank [] all = tt
  marked_made types rank (e ∷ es) all = (all.0, marked_made types (rank + 1) es all.1)

  pub marked_length : (rank : ℕ) (es : List Placed) → length (marked test numbering rank es) ≡ length es
  marked_length rank [] = refl
  marked_length rank (e ∷ es) = let k = marked_length (rank + 1) es in omega (arith, k)

seen_length : (es : List Placed) → length (seen_entries (map unnumbered es)) ≡ length es
seen_length [] = refl
seen_length (e ∷ es) = let k = seen_length es in omega (arith, k)

module _ (test : ℕ → Bool) (d : Tree) where
  -- by which number an entry is looked for
  abbrev own : Numbering → Path → ℕ
  own numbering p = number_by numbering (number_at d p) (rank_in d.entries p)

  number_is : (e : Placed) → finite.get d.numbers e.path ≡ Some e.number → number_at d e.path ≡ e.number
  number_is e is = rw is refl

  by_numbers : (rank : ℕ) (es : List Placed) → AllByRecursion (λ (e : Placed). finite.get d.numbers e.path ≡ Some e.number) es → AreMarked (λ p. test (own InTree p)) (marked test InTree rank es)
  by_numbers rank [] all = tt
  by_numbers rank (e ∷ es) all = (ap test (sym (number_is e all.0)), by_numbers (rank + 1) es all.1)

  pub by_ranks : (rank : ℕ) (es : List Placed) → AreRanked (rank_in d.entries) rank (seen_entries (map unnumbered es)) → AreMarked (λ p. test (own InDump p)) (marked test InDump rank es)
  by_ranks rank [] ranked = tt
  by_ranks rank (e ∷ es) ranked = (ap test (sym ranked.0), by_ranks (rank + 1) es ranked.1)

  -- those at a base and below it
  pub are_marked : (numbering : Numbering) (base : Path) (rank : ℕ) (es : List Placed) → rank ≡ first_rank numbering (rank_in d.entries base)
      → AllByRecursion (λ (e : Placed). finite.get d.numbers e.path ≡ Some e.number) es → seen_entries (map unnumbered es) ≡ filter (λ e. begins base e.0) (finite.entries d.entries)
      → AreMarked (λ p. test (own numbering p)) (marked test numbering rank es)
  are_marked InTree base rank es first numbers seen = by_numbers rank es numbers
  are_marked InDump base rank es first numbers seen = by_ranks rank es (subst (AreRanked (rank_in d.entries) rank) (sym seen) (subst (λ k. AreRanked (rank_in d.entries) k (filter (λ e. begins base e.0) (finite.entries d.entries))) (sym first) (base_ranked d.entries base)))

-- there is a rank for each
pub room_for_ranks : (d : Entries) (numbering : Numbering) (base : Path) (rank : ℕ) (es : List Placed) → rank ≡ first_rank numbering (rank_in d base)
    → seen_entries (map unnumbered es) ≡ filter (λ e. begins base e.0) (finite.entries d) → finite.len d ≤ 4294967295 → rank + length es < 2 ^ 32
room_for_ranks d numbering base rank es first seen few =
    let long = ap length seen in
    let all = before_and_below base (finite.entries d) in
    let at_most = most numbering rank first in
    omega (arith, seen_length es, long, all, at_most, finite.len-entries d, few)
  where
    most : (numbering : Numbering) (rank : ℕ) → rank ≡ first_rank numbering (rank_in d base) → rank ≤ before base (finite.entries d)
    most InTree rank is = omega (arith, is)
    most InDump rank is = omega (arith, is)

-- ---- candidates that suffice

module _ (conf : Conf) (is_candidate : Path → Bool) (base : Path) (scope : Scope) (f : texts.FilterContent) where
  abbrev is_hit : Path × EntryContent → Bool
  is_hit e = is_true (truth conf.types e.1.attrs f)

  one_suffices : (s m h : Bool) → (h ≡ true → m ≡ true) → (s && m) && h ≡ s && h
  one_suffices true true h k = refl
  one_suffices true false true k = k refl
  one_suffices true false false k = refl
  one_suffices false m h k = refl

  suffice : (es : List (Path × EntryContent)) → AllByRecursion (λ (e : Path × EntryContent). is_hit e ≡ true → is_candidate e.0 ≡ true) es
      → filter (λ e. is_tested is_candidate scope base e && is_hit e) es ≡ filter (λ e. is_in_scope scope base e.0 && is_hit e) es
  suffice [] all = refl
  suffice (e ∷ es) all = λ i. cond (one_suffices (is_in_scope scope base e.0) (is_candidate e.0) (is_hit e) all.0 i) (e ∷ suffice es all.1 i) (suffice es all.1 i)

  pub all_suffice : (d : Entries) → ((p : Path) (e : EntryContent) → finite.get d p ≡ Some e → is_true (truth conf.types e.attrs f) ≡ true → is_candidate p ≡ true) → scan_among conf d is_candidate base scope f ≡ scan conf d base scope f
  all_suffice d each =
      suffice (finite.entries d)
      (all_found path_cmp path_total (λ p (e : EntryContent). is_true (truth conf.types e.attrs f) ≡ true → is_candidate p ≡ true) (finite.entries d) (finite.entries_sorted d) (λ p e is. each p e (finite.get-entries d p ∙ is)))

-- ---- all as candidates

module _ (is_candidate : Path → Bool) (all : (p : Path) → is_candidate p ≡ true) (d : Entries) (base : Path) (scope : Scope) where
  pub scanned_whole : (conf : Conf) (f : texts.FilterContent) → scan_among conf d is_candidate base scope f ≡ scan conf d base scope f
  scanned_whole conf f = all_suffice conf is_candidate base scope f d (λ p e _ _. all p)

  pub counted_whole : count_among d is_candidate base scope ≡ count_in_scope d base scope
  counted_whole = ap length (same_filter (is_tested is_candidate scope base) (λ e. is_in_scope scope base e.0) (λ e. ap (λ b. is_in_scope scope base e.0 && b) (all e.0) ∙ and_true (is_in_scope scope base e.0)) (finite.entries d))
    where
      and_true : (b : Bool) → b && true ≡ b
      and_true true = refl
      and_true false = refl

-- ---- what is lent was made

pub lent_made : (all : List AttributeType) (types : List AttributeType) (scope : Scope) (base : ℕ) (f : texts.FilterContent) (n : ℕ) (es : List MarkedEntry) → AllByRecursion (λ e. IsMade all e.entry.attrs) es → AreMade all (lent types scope base f n es)
lent_made all types scope base f n [] made = tt
lent_made all types scope base f n (e ∷ es) made =
    by (e.is_candidate && depth_fits scope base (length e.path)) (is_true (truth types (attributes_of e.entry.attrs) f)) (λ k. lent_made all types scope base f k es made.1)
  where
    by : (a b : Bool) → ((k : ℕ) → AreMade all (lent types scope base f k es))
        → AreMade all (cond a (cond b (record { tested = n + 1; path = e.path; entry = e.entry } ∷ lent types scope base f (n + 1) es) (lent types scope base f (n + 1) es)) (lent types scope base f n es))
    by true true more = (made.0, more (n + 1))
    by true false more = more (n + 1)
    by false b more = more n
