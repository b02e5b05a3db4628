-- The rows of an index are those that the entries give.
use Rattle.std.proofs.Common.{◌≡◌, ◌≢◌, ℕ, ◌+◌, Bool, true, false, cond, ◌&&◌, ◌||◌, nat_eq, List, [], ◌∷◌, map, Option, Some, None, refl, sym, ap, ◌∙◌}
use Rattle.std.specs.Prelude.{unwrap_or}
use Rattle.std.specs.declared.cmp.Ordering.TheVariants.{Less}
use Rattle.std.specs.List.{list_any, flat_map, slice_get, AllByRecursion}
use Rattle.std.specs.List.Sorted.{IsStrictlySortedBy}
use Rattle.std.specs.Map.{keys_of, lookup}
use Rattle.std.specs.Option.{option_map}
use Rattle.std.specs.Ordering.{nat_cmp, is_lt, eq_by_cmp}
use Rattle.std.specs.Cmp.{IsTotalOrder, nat_cmp_total}
use Rattle.std.specs.Cmp.Lexicographic.{slice_cmp, nat_list_cmp_total}
use Rattle.std.specs.Str.{bytes_eq}
use Rattle.std.specs.FinMap as finite
use Rattle.std.specs.FinMap.Entries.{find, is_sorted, below_all, same_entries}
use Rattle.std.specs.FinSet as set
use Rattle.std.proofs.lemmas.Bool.{eq-eqb}
use Rattle.std.proofs.lemmas.Map.Lookups.{exact_bytes}
use Rattle.std.proofs.lemmas.Map.Text.{is_eq-slice_cmp}
use Rattle.id_sets.specs.Lists.{holds}
use Rattle.paths.specs.Paths.{Path, path_cmp}
use Rattle.schema.specs.declared.slots.Slot.{Slot}
use Rattle.schema.specs.Conf.{Conf}
use Rattle.entries.specs.Entries.{EntryContent}
use Rattle.tree.specs.Directories.{IsDirectory}
use Rattle.tree.specs.Trees.{Tree, number_at, IsNumbered}
use Rattle.tree.proofs.Order.{path_exact}
use Rattle.tree.proofs.Kept.{equal}
use Rattle.index_keys.specs.EntryKeys.{entry_keys, has_key}
use Rattle.index_text.specs.Indexes.{Index, members, sets_at}
use Rattle.index_text.specs.KeySets.{Members, Row}
use Rattle.index.specs.KeySets.{AreRowsOf}
use Rattle.index_text.specs.SlotKeys.{slot_key}
use Rattle.index_keys.proofs.Agreement.{told_there}
use Rattle.index_text.specs.IndexTexts.{ended, key_line}
use Rattle.directory.specs.Indexes.{IsIndexOf}
use Rattle.databases.specs.IndexTexts.{ranks_with, slot_rows, contents}
use Rattle.directory.specs.inner.IndexRows.{rank_at, AreRanked, numbers_in_order, ranks_of, ranked_row, rows_text}
use Rattle.databases.proofs.IndexRows.{ranks_rise, find_each, any_key, is_T}
use Rattle.databases.proofs.LoadLaw.{all_there, flat_map-map}
use Rattle.directory.proofs.RankLists.{ascending_is, any_map, member_passes, among_others}
use Rattle.directory.proofs.RanksByNumber.{there_number}

abbrev Pairs : Type 0
Pairs = List (Path × EntryContent)

abbrev AreThere : Tree → Pairs → Type 0
AreThere t es = AllByRecursion (λ e. finite.get t.entries e.0 ≡ Some e.1) es

abbrev numbers_of : Tree → Pairs → List ℕ
numbers_of t es = map (λ e. number_at t e.0) es

-- ---- rows by their keys

find_row : (ranks : List ℕ) (rows : List Row) (q : List ℕ) → find (slice_cmp nat_cmp) q (map (ranked_row ranks) rows) ≡ option_map (ranks_of ranks) (lookup (bytes_eq q) rows)
find_row ranks [] q = refl
find_row ranks (row ∷ rows) q =
    ap (λ b. cond b (Some (ranks_of ranks row.1)) (find (slice_cmp nat_cmp) q (map (ranked_row ranks) rows))) (is_eq-slice_cmp q row.0)
    ∙ ap (cond (bytes_eq q row.0) (Some (ranks_of ranks row.1))) (find_row ranks rows q)
    ∙ by (bytes_eq q row.0)
  where
    by : (b : Bool) → cond b (Some (ranks_of ranks row.1)) (option_map (ranks_of ranks) (lookup (bytes_eq q) rows)) ≡ option_map (ranks_of ranks) (cond b (Some row.1) (lookup (bytes_eq q) rows))
    by true = refl
    by false = refl

full_row : (rows : List Row) (q : List ℕ) (m : Members) → AllByRecursion (λ row. row.1 ≢ set.empty) rows → lookup (bytes_eq q) rows ≡ Some m → m ≢ set.empty
full_row [] q m all is none = cc
full_row (row ∷ rows) q m all is none = by (bytes_eq q row.0) is (full_row rows q m all.1) none
  where
    by : (b : Bool) → cond b (Some row.1) (lookup (bytes_eq q) rows) ≡ Some m → (lookup (bytes_eq q) rows ≡ Some m → m ≢ set.empty) → m ≢ set.empty
    by true said rest none = all.0 (let same : row.1 ≡ m = cc in same ∙ none)
    by false said rest none = rest said none

below_keys : (ranks : List ℕ) (key : List ℕ) (rows : List Row) → AllByRecursion (λ k. slice_cmp nat_cmp key k ≡ Less) (keys_of rows) → below_all (slice_cmp nat_cmp) key (map (ranked_row ranks) rows) ≡ true
below_keys ranks key [] h = refl
below_keys ranks key (row ∷ rows) h = ap (λ o. is_lt o && below_all (slice_cmp nat_cmp) key (map (ranked_row ranks) rows)) h.0 ∙ below_keys ranks key rows h.1

sorted_rows : (ranks : List ℕ) (rows : List Row) → IsStrictlySortedBy (slice_cmp nat_cmp) (keys_of rows) → is_sorted (slice_cmp nat_cmp) (map (ranked_row ranks) rows) ≡ true
unfolding IsStrictlySortedBy
sorted_rows ranks [] h = refl
sorted_rows ranks (row ∷ rows) h = ap (λ b. b && is_sorted (slice_cmp nat_cmp) (map (ranked_row ranks) rows)) (below_keys ranks row.0 rows h.0) ∙ sorted_rows ranks rows h.1

-- ---- the rows of a slot

module _ (conf : Conf) (t : Tree) (x : Index) (ranks : List ℕ) (is : IsIndexOf conf t.entries t.numbers x) (total : IsTotalOrder path_cmp) (numbered : IsNumbered t.entries t.numbers) (directory : IsDirectory t.conf t.entries) (ranked : AreRanked ranks 0 (numbers_in_order t)) (place : ℕ) (s : Slot) (at : slice_get conf.slots place ≡ Some s) where
  abbrev has : List ℕ → EntryContent → Bool
  has key e = has_key conf.types e.attrs s.type_id s.kind key

  abbrev in_index : List ℕ → ℕ → Bool
  in_index key n = set.contains (members x (slot_key place key)) n

  all : AreThere t (finite.entries t.entries)
  all = all_there total t.conf t.entries directory

  has_is : (key : List ℕ) (e : Path × EntryContent) → finite.get t.entries e.0 ≡ Some e.1 → in_index key (number_at t e.0) ≡ has key e.1
  has_is key e there =
      is.has (number_at t e.0) e.1 (record { path = e.0; number = there_number t numbered e.0 e.1 there; entry = there }) (slot_key place key)
      ∙ sym (told_there conf e.1.attrs place s at key)

  -- a number that the index has is that of an entry
  found_number : (p : Path) (e : EntryContent) (n : ℕ) → finite.get t.numbers p ≡ Some n → (es : Pairs) → find path_cmp p es ≡ Some e → holds (numbers_of t es) n ≡ true
  found_number p e n number [] found = absurd cc
  found_number p e n number (f ∷ fs) found = by (eq_by_cmp path_cmp p f.0) refl found (found_number p e n number fs)
    where
      or_true : (b : Bool) → (b || true) ≡ true
      or_true true = refl
      or_true false = refl

      by : (b : Bool) → eq_by_cmp path_cmp p f.0 ≡ b → cond b (Some f.1) (find path_cmp p fs) ≡ Some e → (find path_cmp p fs ≡ Some e → holds (numbers_of t fs) n ≡ true) → (nat_eq (number_at t f.0) n || holds (numbers_of t fs) n) ≡ true
      by true tie said rest =
          let same : p ≡ f.0 = path_exact p f.0 (equal (path_cmp p f.0) tie) in
          let number_is : number_at t f.0 ≡ n = ap (λ (q : Path). number_at t q) (sym same) ∙ ap (λ o. unwrap_or o t.next_number) number in
          ap (λ b. b || holds (numbers_of t fs) n) (eq-eqb (number_at t f.0) n number_is)
      by false tie said rest = ap (λ b. nat_eq (number_at t f.0) n || b) (rest said) ∙ or_true (nat_eq (number_at t f.0) n)

  listed : (key : List ℕ) (n : ℕ) → in_index key n ≡ true → holds (numbers_in_order t) n ≡ true
  listed key n h = by (holds (numbers_in_order t) n) refl
    where
      by : (b : Bool) → holds (numbers_in_order t) n ≡ b → b ≡ true
      by true said = refl
      by false said =
          let none : in_index key n ≡ false = is.none n (λ e had. let bad : true ≡ false = sym (found_number had.path e n had.number (finite.entries t.entries) (sym (finite.get-entries t.entries had.path) ∙ had.entry)) ∙ said in cc) (slot_key place key) in
          let bad : true ≡ false = sym h ∙ none in
          absurd cc

  -- ---- the ranks of a key

  abbrev rest : List ℕ → ℕ → Pairs → List ℕ
  rest key rank es = ranks_with conf.types s key rank (map (λ e. e.1) es)

  abbrev others : List ℕ → ℕ → Pairs → Bool
  others key r es = list_any (λ n. in_index key n && nat_eq (rank_at ranks n) r) (numbers_of t es)

  with_is : (key : List ℕ) (r rank : ℕ) (es : Pairs) → AreThere t es → AreRanked ranks rank (numbers_of t es)
      → holds (rest key rank es) r ≡ others key r es
  with_is key r rank [] there ranked = refl
  with_is key r rank (e ∷ es) there ranked = by (has key e.1) (has_is key e there.0) (with_is key r (rank + 1) es there.1 ranked.1)
    where
      by : (b : Bool) → in_index key (number_at t e.0) ≡ b → holds (rest key (rank + 1) es) r ≡ others key r es
          → holds (cond b (rank ∷ rest key (rank + 1) es) (rest key (rank + 1) es)) r ≡ ((in_index key (number_at t e.0) && nat_eq (rank_at ranks (number_at t e.0)) r) || others key r es)
      by true said same =
          ap (λ b. nat_eq rank r || b) same
          ∙ ap (λ (m : ℕ). nat_eq m r || others key r es) (sym ranked.0)
          ∙ ap (λ b. (b && nat_eq (rank_at ranks (number_at t e.0)) r) || others key r es) (sym said)
      by false said same = same ∙ ap (λ b. (b && nat_eq (rank_at ranks (number_at t e.0)) r) || others key r es) (sym said)

  ranks_are : (key : List ℕ) → ranks_of ranks (members x (slot_key place key)) ≡ ranks_with conf.types s key 0 (contents t.entries)
  ranks_are key = sym (ascending_is (ranks_with conf.types s key 0 (contents t.entries)) (map (rank_at ranks) (set.items (members x (slot_key place key)))) (ranks_rise conf.types s key 0 (contents t.entries)) (λ r.
      with_is key r 0 (finite.entries t.entries) all ranked
      ∙ among_others (in_index key) (λ n. nat_eq (rank_at ranks n) r) (members x (slot_key place key)) (numbers_in_order t) (λ n. refl) (listed key)
      ∙ sym (any_map (rank_at ranks) (λ y. nat_eq y r) (set.items (members x (slot_key place key))))))

  -- ---- which keys there are

  any_is : (key : List ℕ) (es : Pairs) → AreThere t es → list_any (has key) (map (λ e. e.1) es) ≡ list_any (in_index key) (numbers_of t es)
  any_is key [] there = refl
  any_is key (e ∷ es) there = λ i. sym (has_is key e there.0) i || any_is key es there.1 i

  none_pass : (m : Members) (ns : List ℕ) → m ≡ set.empty → list_any (set.contains m) ns ≡ false
  none_pass m [] none = refl
  none_pass m (n ∷ ns) none = ap (λ b. b || list_any (set.contains m) ns) (ap (λ (m : Members). set.contains m n) none ∙ set.contains-empty nat_cmp n) ∙ none_pass m ns none

  no_member : (key : List ℕ) → members x (slot_key place key) ≡ set.empty → list_any (has key) (contents t.entries) ≡ false
  no_member key none = any_is key (finite.entries t.entries) all ∙ none_pass (members x (slot_key place key)) (numbers_in_order t) none

  some_member : (key : List ℕ) → members x (slot_key place key) ≢ set.empty → list_any (has key) (contents t.entries) ≡ true
  some_member key some = by (list_any (in_index key) (numbers_in_order t)) refl
    where
      empty_then : list_any (in_index key) (numbers_in_order t) ≡ false → (n : ℕ) (b : Bool) → in_index key n ≡ b → b ≡ false
      empty_then none n true has = let bad : true ≡ false = sym (member_passes (in_index key) (numbers_in_order t) n (listed key n has) has) ∙ none in absurd cc
      empty_then none n false has = refl

      by : (b : Bool) → list_any (in_index key) (numbers_in_order t) ≡ b → list_any (has key) (contents t.entries) ≡ true
      by true said = any_is key (finite.entries t.entries) all ∙ said
      by false said = absurd (some (set.same_set nat_cmp_total set.nat_cmp-IsAntisymmetric _ _ (λ n. empty_then said n (in_index key n) refl ∙ sym (set.contains-empty nat_cmp n))))

  -- ---- all rows

  abbrev wanted : List ℕ → Bool → Option (List ℕ)
  wanted key b = cond b (Some (ranks_with conf.types s key 0 (contents t.entries))) None

  abbrev made : finite.FinMap (slice_cmp nat_cmp) (List ℕ)
  made = finite.from_entries (map (λ key. (key, ranks_with conf.types s key 0 (contents t.entries))) (flat_map (λ e. entry_keys conf.types e.attrs s.type_id s.kind) (contents t.entries)))

  module _ (rows : List Row) (are : AreRowsOf (sets_at x place) rows) where
    by_key : (q : List ℕ) → find (slice_cmp nat_cmp) q (map (ranked_row ranks) rows) ≡ wanted q (list_any (has q) (contents t.entries))
    by_key q = find_row ranks rows q ∙ by (lookup (bytes_eq q) rows) refl
      where
        by : (o : Option Members) → lookup (bytes_eq q) rows ≡ o → option_map (ranks_of ranks) o ≡ wanted q (list_any (has q) (contents t.entries))
        by None said = ap (wanted q) (sym (no_member q (sym (are.exact q) ∙ ap (λ o. unwrap_or o set.empty) said)))
        by (Some m) said =
            let m_is : m ≡ members x (slot_key place q) = sym (ap (λ o. unwrap_or o set.empty) said) ∙ are.exact q in
            ap (λ (n : Members). Some (ranks_of ranks n)) m_is
            ∙ ap (λ (rs : List ℕ). Some rs) (ranks_are q)
            ∙ ap (wanted q) (sym (some_member q (λ none. full_row rows q m are.full said (m_is ∙ none))))

    pub rows_are : map (ranked_row ranks) rows ≡ slot_rows conf.types (contents t.entries) s
    rows_are = same_entries (slice_cmp nat_cmp) nat_list_cmp_total exact_bytes (map (ranked_row ranks) rows) (slot_rows conf.types (contents t.entries) s)
        (is_T _ (sorted_rows ranks rows are.rise))
        (finite.entries_sorted made)
        (λ q. by_key q
        ∙ ap (wanted q) (sym (any_key conf.types s (contents t.entries) q))
        ∙ sym (find_each (λ key. ranks_with conf.types s key 0 (contents t.entries)) (flat_map (λ e. entry_keys conf.types e.attrs s.type_id s.kind) (contents t.entries)) q)
        ∙ sym (finite.get-from_entries nat_list_cmp_total _ q)
        ∙ finite.get-entries made q)

    pub lines_are : rows_text ranks rows ≡ flat_map (λ row. ended (key_line row)) (slot_rows conf.types (contents t.entries) s)
    lines_are = sym (flat_map-map (λ row. ended (key_line row)) (ranked_row ranks) rows) ∙ ap (flat_map (λ row. ended (key_line row))) rows_are
