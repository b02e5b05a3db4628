-- Candidates by their numbers are candidates by their ranks.
use Rattle.std.proofs.Common.{◌≡◌, ℕ, ◌+◌, ◌≤◌, ◌<◌, Bool, true, false, cond, ◌||◌, nat_eq, List, [], ◌∷◌, map, length, Some, refl, sym, ap, subst, ◌∙◌, arith}
use Rattle.std.specs.Prelude.{is_some, not}
use Rattle.std.specs.List.{list_any, AllByRecursion}
use Rattle.std.specs.Ordering.{nat_cmp, eq_by_cmp}
use Rattle.std.specs.FinMap as finite
use Rattle.std.specs.FinMap.Entries.{find}
use Rattle.std.specs.FinSet as set
use Rattle.std.proofs.lemmas.Bool.{eqb-true, eq-eqb}
use Rattle.std.proofs.lemmas.List.{length-map}
use Rattle.id_sets.specs.Lists.{holds}
use Rattle.paths.specs.Paths.{Path, path_cmp}
use Rattle.schema.specs.Conf.{Conf, IsConf}
use Rattle.entries.specs.Entries.{Attributes, EntryContent, IsAttribute}
use Rattle.tree.specs.Directories.{Entries, IsDirectory}
use Rattle.tree.specs.Trees.{Tree, IsNumbered, number_at}
use Rattle.tree.proofs.Kept.{equal}
use Rattle.tree.proofs.Order.{path_exact, path_total}
use Rattle.filter_text.specs.Spells as texts
use Rattle.filter.specs.Filters.{truth}
use Rattle.filter.specs.Made.{Made}
use Rattle.filter.specs.Prepared as prepared
use Rattle.index_text.specs.declared.slot_key.SlotKey.{SlotKey}
use Rattle.index_text.specs.Indexes.{Index, members}
use Rattle.index_text.specs.Postings.{Shown, shown_by}
use Rattle.index_keys.specs.EntryKeys.{slot_keys}
use Rattle.candidates.specs.Brackets.{Reflects, Allows}
use Rattle.candidates.specs.Sides.{sides}
use Rattle.paths.specs.declared.scope.Scope.{Scope}
use Rattle.databases.specs.Found.{AreThere}
use Rattle.databases.specs.Ranks.{rank_in}
use Rattle.databases.specs.Scanned.{scan, scan_among, count_among, Suffices}
use Rattle.databases.specs.TreeSearches.{found, counted_found}
use Rattle.databases.specs.Walks.{Walk, seen, counted, AreMade}
use Rattle.databases.proofs.ByPostings.{is_candidate}
use Rattle.databases.proofs.FoundText.{found_are_there}
use Rattle.databases.proofs.Places as places
use Rattle.directory.specs.Indexes.{IsIndexOf}
use Rattle.directory.specs.Searches.{FindsByIndex, may_by_number}
use Rattle.directory.proofs.ByIndex.{reflected, same_count, same_may, same_steps}
use Rattle.directory.specs.inner.IndexRows.{no_rank, rank_at, AreRanked, numbers_in_order, ranks_of}
use Rattle.directory.specs.inner.Ordered.{IsRankTable}
use Rattle.directory.proofs.RankLists.{any_map, ascending_holds, items_hold, member_passes, same_answer}

abbrev Pairs : Type 0
Pairs = List (Path × EntryContent)

or_true : (b : Bool) → (b || true) ≡ true
or_true true = refl
or_true false = refl

-- ---- numbers in a row, each with its rank

module _ (ranks : List ℕ) where
  within : (at : ℕ) (ns : List ℕ) (n : ℕ) → AreRanked ranks at ns → holds ns n ≡ true → (at ≤ rank_at ranks n) × (rank_at ranks n < at + length ns)
  within at [] n h is = cc
  within at (m ∷ ms) n h is = by (nat_eq m n) refl is (within (at + 1) ms n h.1)
    where
      by : (b : Bool) → nat_eq m n ≡ b → (b || holds ms n) ≡ true → (holds ms n ≡ true → (at + 1 ≤ rank_at ranks n) × (rank_at ranks n < at + 1 + length ms)) → (at ≤ rank_at ranks n) × (rank_at ranks n < at + length (m ∷ ms))
      by true same said later = let here : rank_at ranks n ≡ at = ap (rank_at ranks) (sym (eqb-true m n same)) ∙ h.0 in (omega (arith, here), omega (arith, here))
      by false apart said later = let both = later said in let low = both.0 in let high = both.1 in (omega (arith, low), omega (arith, high))

  -- two with one rank are one
  one_each : (at : ℕ) (ns : List ℕ) (n m : ℕ) → AreRanked ranks at ns → holds ns n ≡ true → holds ns m ≡ true → rank_at ranks n ≡ rank_at ranks m → n ≡ m
  one_each at [] n m h has_n has_m same = cc
  one_each at (x ∷ xs) n m h has_n has_m same = by (nat_eq x n) (nat_eq x m) refl refl has_n has_m (one_each (at + 1) xs n m h.1)
    where
      by : (a b : Bool) → nat_eq x n ≡ a → nat_eq x m ≡ b → (a || holds xs n) ≡ true → (b || holds xs m) ≡ true
          → (holds xs n ≡ true → holds xs m ≡ true → rank_at ranks n ≡ rank_at ranks m → n ≡ m) → n ≡ m
      by true true is_n is_m said_n said_m later = sym (eqb-true x n is_n) ∙ eqb-true x m is_m
      by true false is_n is_m said_n said_m later =
          let here : rank_at ranks n ≡ at = ap (rank_at ranks) (sym (eqb-true x n is_n)) ∙ h.0 in
          let behind = (within (at + 1) xs m h.1 said_m).0 in
          absurd (omega (arith, here, behind, same))
      by false true is_n is_m said_n said_m later =
          let here : rank_at ranks m ≡ at = ap (rank_at ranks) (sym (eqb-true x m is_m)) ∙ h.0 in
          let behind = (within (at + 1) xs n h.1 said_n).0 in
          absurd (omega (arith, here, behind, same))
      by false false is_n is_m said_n said_m later = later said_n said_m same

-- ---- entries by their paths

-- what holds of each entry's path holds of a path that is there
at_path : (P : Path → Type 0) (es : Pairs) (p : Path) → is_some (find path_cmp p es) ≡ true → AllByRecursion (λ e. P e.0) es → P p
at_path P [] p there all = cc
at_path P (e ∷ es) p there all = by (eq_by_cmp path_cmp p e.0) refl there (λ h. at_path P es p h all.1)
  where
    by : (b : Bool) → eq_by_cmp path_cmp p e.0 ≡ b → is_some (cond b (Some e.1) (find path_cmp p es)) ≡ true → (is_some (find path_cmp p es) ≡ true → P p) → P p
    by true tie said later = subst P (sym (path_exact p e.0 (equal (path_cmp p e.0) tie))) all.0
    by false tie said later = later said

module _ (t : Tree) (ranks : List ℕ) where
  same_rank : (at : ℕ) (es : Pairs) → places.AreRanked (rank_in t.entries) at es → AreRanked ranks at (map (λ e. number_at t e.0) es) → AllByRecursion (λ (e : Path × EntryContent). rank_at ranks (number_at t e.0) ≡ rank_in t.entries e.0) es
  same_rank at [] placed ranked = tt
  same_rank at (e ∷ es) placed ranked = (ranked.0 ∙ sym placed.0, same_rank (at + 1) es placed.1 ranked.1)

  -- those of a list are among those of a longer one
  listed : (es : Pairs) (all : List ℕ) → ((n : ℕ) → holds (map (λ (e : Path × EntryContent). number_at t e.0) es) n ≡ true → holds all n ≡ true) → AllByRecursion (λ (e : Path × EntryContent). holds all (number_at t e.0) ≡ true) es
  listed [] all among = tt
  listed (e ∷ es) all among = (
    among (number_at t e.0) (ap (λ b. b || holds (map (λ (e : Path × EntryContent). number_at t e.0) es) (number_at t e.0)) (eq-eqb (number_at t e.0) (number_at t e.0) refl)),
    listed es all (λ n has. among n (ap (λ b. nat_eq (number_at t e.0) n || b) has ∙ or_true (nat_eq (number_at t e.0) n))),
  )

  module _ (table : IsRankTable t ranks) (p : Path) (there : finite.contains_key t.entries p ≡ true) where
    is_found : is_some (find path_cmp p (finite.entries t.entries)) ≡ true
    is_found = ap is_some (sym (finite.get-entries t.entries p)) ∙ there

    has_number : holds (numbers_in_order t) (number_at t p) ≡ true
    has_number = at_path (λ q. holds (numbers_in_order t) (number_at t q) ≡ true) (finite.entries t.entries) p is_found (listed (finite.entries t.entries) (numbers_in_order t) (λ n h. h))

    its_rank : rank_at ranks (number_at t p) ≡ rank_in t.entries p
    its_rank = at_path (λ q. rank_at ranks (number_at t q) ≡ rank_in t.entries q) (finite.entries t.entries) p is_found (same_rank 0 (finite.entries t.entries) (places.all_ranked t.entries) table.ranked)

    -- no other number has its rank
    own_rank : (m : ℕ) → rank_at ranks m ≡ rank_in t.entries p → m ≡ number_at t p
    own_rank m is = by (holds (numbers_in_order t) m) refl
      where
        by : (b : Bool) → holds (numbers_in_order t) m ≡ b → m ≡ number_at t p
        by true has = one_each ranks 0 (numbers_in_order t) m (number_at t p) table.ranked has has_number (is ∙ sym its_rank)
        by false hasnt =
            let none = table.others m hasnt in
            let below = (within ranks 0 (numbers_in_order t) (number_at t p) table.ranked has_number).1 in
            let long = length-map (finite.entries t.entries) (λ (e : Path × EntryContent). number_at t e.0) ∙ sym (finite.len-entries t.entries) in
            let rank = its_rank in
            let few = table.few in
            absurd (omega (arith, is, none, below, long, rank, few))

    only : (s : set.FinSet nat_cmp) (ms : List ℕ) → ((m : ℕ) → holds ms m ≡ true → set.contains s m ≡ true) → list_any (λ m. nat_eq (rank_at ranks m) (rank_in t.entries p)) ms ≡ true → set.contains s (number_at t p) ≡ true
    only s [] own said = cc
    only s (m ∷ ms) own said = by (nat_eq (rank_at ranks m) (rank_in t.entries p)) refl said (only s ms (λ n has. own n (ap (λ b. nat_eq m n || b) has ∙ or_true (nat_eq m n))))
      where
        by : (b : Bool) → nat_eq (rank_at ranks m) (rank_in t.entries p) ≡ b → (b || list_any (λ m. nat_eq (rank_at ranks m) (rank_in t.entries p)) ms) ≡ true
            → (list_any (λ m. nat_eq (rank_at ranks m) (rank_in t.entries p)) ms ≡ true → set.contains s (number_at t p) ≡ true) → set.contains s (number_at t p) ≡ true
        by true is _ _ = subst (λ (n : ℕ). set.contains s n ≡ true) (own_rank m (eqb-true (rank_at ranks m) (rank_in t.entries p) is)) (own m (ap (λ b. b || holds ms m) (eq-eqb m m refl)))
        by false apart rest later = later rest

    pub same_members : (s : set.FinSet nat_cmp) → set.contains (set.from_list {R = nat_cmp} (ranks_of ranks s)) (rank_in t.entries p) ≡ set.contains s (number_at t p)
    same_members s =
        set.contains-from_list_nat (ranks_of ranks s) (rank_in t.entries p)
        ∙ ascending_holds (map (rank_at ranks) (set.items s)) (rank_in t.entries p)
        ∙ any_map (rank_at ranks) (λ y. nat_eq y (rank_in t.entries p)) (set.items s)
        ∙ same_answer (list_any (λ m. nat_eq (rank_at ranks m) (rank_in t.entries p)) (set.items s)) (set.contains s (number_at t p))
        (only s (set.items s) (λ m has. sym (items_hold s m) ∙ has))
        (λ has. member_passes (λ m. nat_eq (rank_at ranks m) (rank_in t.entries p)) (set.items s) (number_at t p) (items_hold s (number_at t p) ∙ has) (eq-eqb (rank_at ranks (number_at t p)) (rank_in t.entries p) its_rank))

-- ---- what a search by ranks finds

-- where the candidates by their ranks are those that an index of the tree gives
module _ (t : Tree) (f : Made) (base : Path) (scope : Scope) (x : Index) (is_rank : ℕ → Bool) (prepared_by : f.conf ≡ t.conf) (is_conf : IsConf t.conf) (directory : IsDirectory t.conf t.entries)
    (numbered : IsNumbered t.entries t.numbers) (indexed : IsIndexOf t.conf t.entries t.numbers x) (agree : (p : Path) → finite.contains_key t.entries p ≡ true → is_rank (rank_in t.entries p) ≡ may_by_number (shown_by x) f t p) where
  abbrev by_its_rank : Path → Bool
  by_its_rank p = is_rank (rank_in t.entries p)

  told : (p : Path) (e : EntryContent) → finite.get t.entries p ≡ Some e → by_its_rank p ≡ may_by_number (shown_by x) f t p
  told p e at = agree p (ap is_some at)

  told_by : (y : Index) → IsIndexOf t.conf t.entries t.numbers y → (p : Path) (e : EntryContent) → finite.get t.entries p ≡ Some e → by_its_rank p ≡ may_by_number (shown_by y) f t p
  told_by y of_y p e at = told p e at ∙ same_may t.conf t numbered x indexed y of_y f p e at

  pub finds : ((conf : Conf) (shown : Shown) (n : ℕ) (attrs : Attributes) (f : texts.FilterContent) → IsConf conf → AllByRecursion (IsAttribute conf.types) attrs
      → Reflects shown conf.types n attrs → Allows (truth conf.types attrs f) (sides shown n (prepared.prepared_filter conf.types f)))
      → ((x : Index) (n : ℕ) (attrs : Attributes) → ((k : SlotKey) → set.contains (members x k) n ≡ set.contains (slot_keys x.conf attrs) k) → Reflects (shown_by x) x.conf.types n attrs)
      → ((conf : Conf) (d : Entries) (is_candidate : Path → Bool) (base : Path) (scope : Scope) (f : texts.FilterContent) → Suffices conf d is_candidate f → scan_among conf d is_candidate base scope f ≡ scan conf d base scope f)
      → (walk : Walk) → walk.tested ≡ 0 → map counted walk.to_come ≡ counted_found t by_its_rank base scope f → map seen walk.to_come ≡ found t by_its_rank base scope f
      → walk.in_the_end ≡ count_among t.entries by_its_rank base scope → AreMade t.conf.types walk.to_come → FindsByIndex t.conf t f base scope walk
  finds brackets reflect suffice walk start steps is_found tested made =
      let whole = is_found ∙ suffice t.conf t.entries by_its_rank base scope (texts.view f.filter)
      (λ p e at is. told p e at ∙ is_candidate t (shown_by x) f prepared_by is_conf directory brackets (number_at t p) p e at (reflected t.conf t numbered x indexed reflect p e at) is) in
      record {
        start = start;
        steps = λ y of_y. steps ∙ same_steps by_its_rank (may_by_number (shown_by y) f t) base scope t.entries (told_by y of_y) t.conf (texts.view f.filter);
        found = whole;
        tested = λ y of_y. tested ∙ same_count by_its_rank (may_by_number (shown_by y) f t) base scope t.entries (told_by y of_y);
        made = made;
        entries = subst (AreThere t.entries) (sym is_found) (found_are_there t.conf t.entries by_its_rank base scope (texts.view f.filter) path_total directory);
      }
