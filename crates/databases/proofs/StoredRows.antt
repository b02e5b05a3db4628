-- The text of a directory's index is read as its rows, and these show the entries by their ranks.
use Rattle.std.proofs.Common.{◌≡◌, ℕ, zero, suc, ◌+◌, ◌<◌, ◌≤◌, Bool, true, false, cond, ◌||◌, ◌&&◌, ◌==◌, nat_lt, List, [], ◌∷◌, ◌++◌, map, length, Option, Some, None, refl, sym, ap, subst, ◌∙◌, arith}
use Rattle.std.specs.Prelude.{T, unwrap_or, slice_index_or}
use Rattle.std.specs.declared.cmp.Ordering.{Ordering}
use Rattle.std.specs.declared.cmp.Ordering.TheVariants.{Less, Equal, Greater}
use Rattle.std.specs.List.{AllByRecursion, list_any, list_all, flat_map, slice_get}
use Rattle.std.specs.List.Sorted.{IsStrictlySortedBy}
use Rattle.std.specs.Map.{lookup}
use Rattle.std.specs.Option.{option_map}
use Rattle.std.specs.Cmp.Lexicographic.{slice_cmp}
use Rattle.std.proofs.lemmas.Cmp.{nat_list_cmp_total}
use Rattle.std.specs.Ordering.{nat_cmp, is_lt}
use Rattle.std.specs.Str.{bytes_eq}
use Rattle.std.specs.FinMap as finite
use Rattle.std.specs.FinMap.Entries.{find, is_sorted, below_all}
use Rattle.std.specs.FinSet as set
use Rattle.std.proofs.lemmas.Bool.{and_parts, ltb-true}
use Rattle.std.proofs.lemmas.Bool.Decides.{nat_tests}
use Rattle.std.proofs.lemmas.List.{length-map}
use Rattle.std.proofs.lemmas.Map.Text.{is_eq-slice_cmp}
use Rattle.id_sets.specs.Ascending.{AllAbove, IsAscending}
use Rattle.matching.specs.Syntaxes.{is_byte}
use Rattle.paths.specs.Paths.{Path, path_cmp}
use Rattle.values.specs.declared.types.AttributeType.{AttributeType}
use Rattle.schema.specs.Conf.{Conf, IsConf}
use Rattle.schema.specs.declared.slots.Slot.{Slot}
use Rattle.entries.specs.Entries.{EntryContent, IsGood}
use Rattle.tree.specs.Directories.{Entries, IsDirectory}
use Rattle.tree.proofs.Order.{path_total}
use Rattle.tree.proofs.Views.{all_found}
use Rattle.index_keys.specs.EntryKeys.{entry_keys, has_key}
use Rattle.index_text.specs.KeySets as kept
use Rattle.index_text.specs.IndexTexts.{Row}
use Rattle.stored_index.specs.Rows.{IsByte, IsRow, AreSlotRows, AreRows, key_of, slot_of}
use Rattle.stored_index.specs.Stored.{kept_rows, kept_slots, stored, shown_by}
use Rattle.databases.specs.IndexTexts.{ranks_with, slot_rows, contents, index_rows}
use Rattle.databases.specs.Searches.{ShowsIndexText}
use Rattle.databases.proofs.KeyBytes.{AreBytes, keys_bytes}
use Rattle.databases.proofs.IndexRows.{ranks_rise, find_each, any_key, same_bytes}

-- ---- lists

less : (o : Ordering) → T (is_lt o) → o ≡ Less
less Less h = refl
less Equal h = absurd h
less Greater h = absurd h

split_and : (a b : Bool) → T (a && b) → T a × T b
split_and true b h = (tt, h)
split_and false b h = absurd h

below : (key : List ℕ) (rows : List Row) → T (below_all (slice_cmp nat_cmp) key rows) → AllByRecursion (λ k. slice_cmp nat_cmp key k ≡ Less) (map key_of rows)
below key [] h = tt
below key (row ∷ rows) h =
    let both = split_and (is_lt (slice_cmp nat_cmp key row.0)) (below_all (slice_cmp nat_cmp) key rows) h in
    (less (slice_cmp nat_cmp key row.0) both.0, below key rows both.1)

keys_rise : (rows : List Row) → T (is_sorted (slice_cmp nat_cmp) rows) → IsStrictlySortedBy (slice_cmp nat_cmp) (map key_of rows)
unfolding IsStrictlySortedBy
keys_rise [] h = tt
keys_rise (row ∷ rows) h =
    let both = split_and (below_all (slice_cmp nat_cmp) row.0 rows) (is_sorted (slice_cmp nat_cmp) rows) h in
    (below row.0 rows both.0, keys_rise rows both.1)

less_from_lt : (x y : ℕ) → x < y → nat_cmp x y ≡ Less
less_from_lt x y lt =
    let t : nat_lt x y ≡ true = grind (arith, nat_tests) in
    ap (λ (b : Bool). cond b Less (cond (x == y) Equal Greater)) t

above_less : (n : ℕ) (ns : List ℕ) → AllAbove n ns → AllByRecursion (λ m. nat_cmp n m ≡ Less) ns
above_less n [] h = tt
above_less n (m ∷ ms) h = (less_from_lt n m h.0, above_less n ms h.1)

numbers_rise : (ns : List ℕ) → IsAscending ns → IsStrictlySortedBy nat_cmp ns
unfolding IsStrictlySortedBy
numbers_rise [] h = tt
numbers_rise (n ∷ ns) h = (above_less n ns h.0, numbers_rise ns h.1)

each_byte : (bs : List ℕ) → AreBytes bs → AllByRecursion IsByte bs
each_byte [] h = tt
each_byte (b ∷ bs) h =
    let both = and_parts (is_byte b) (list_all is_byte bs) h in
    (ltb-true b 256 both.0, each_byte bs both.1)

one_of : (q : List ℕ) (ks : List (List ℕ)) → AllByRecursion AreBytes ks → list_any (λ k. bytes_eq k q) ks ≡ true → AreBytes q
one_of q [] all h = absurd cc
one_of q (k ∷ ks) all h = by (bytes_eq k q) refl h (one_of q ks all.1)
  where
    by : (b : Bool) → bytes_eq k q ≡ b → (b || list_any (λ k. bytes_eq k q) ks) ≡ true → (list_any (λ k. bytes_eq k q) ks ≡ true → AreBytes q) → AreBytes q
    by true same h rest = subst AreBytes (same_bytes k q same) all.0
    by false apart h rest = rest h

all_more : (xs ys : List (List ℕ)) → AllByRecursion AreBytes xs → AllByRecursion AreBytes ys → AllByRecursion AreBytes (xs ++ ys)
all_more [] ys h k = k
all_more (x ∷ xs) ys h k = (h.0, all_more xs ys h.1 k)

-- ---- ranks

ranks_within : (types : List AttributeType) (s : Slot) (key : List ℕ) (n rank : ℕ) (es : List EntryContent) → rank + length es ≤ n → AllByRecursion (λ r. r < n) (ranks_with types s key rank es)
ranks_within types s key n rank [] le = tt
ranks_within types s key n rank (e ∷ es) le = by (has_key types e.attrs s.type_id s.kind key) (ranks_within types s key n (rank + 1) es (omega (arith, le)))
  where
    by : (b : Bool) → AllByRecursion (λ r. r < n) (ranks_with types s key (rank + 1) es) → AllByRecursion (λ r. r < n) (cond b (rank ∷ ranks_with types s key (rank + 1) es) (ranks_with types s key (rank + 1) es))
    by true rest = (omega (arith, le), rest)
    by false rest = rest

abbrev has : List AttributeType → Slot → List ℕ → EntryContent → Bool
has types s key e = has_key types e.attrs s.type_id s.kind key

some_ranks : (types : List AttributeType) (s : Slot) (key : List ℕ) (rank : ℕ) (es : List EntryContent) → list_any (has types s key) es ≡ true → 0 < length (ranks_with types s key rank es)
some_ranks types s key rank [] h = absurd cc
some_ranks types s key rank (e ∷ es) h = by (has types s key e) h (some_ranks types s key (rank + 1) es)
  where
    by : (b : Bool) → (b || list_any (has types s key) es) ≡ true → (list_any (has types s key) es ≡ true → 0 < length (ranks_with types s key (rank + 1) es)) → 0 < length (cond b (rank ∷ ranks_with types s key (rank + 1) es) (ranks_with types s key (rank + 1) es))
    by true h rest = omega arith
    by false h rest = rest h

no_ranks : (types : List AttributeType) (s : Slot) (key : List ℕ) (rank : ℕ) (es : List EntryContent) → list_any (has types s key) es ≡ false → ranks_with types s key rank es ≡ []
no_ranks types s key rank [] h = refl
no_ranks types s key rank (e ∷ es) h = by (has types s key e) h (no_ranks types s key (rank + 1) es)
  where
    by : (b : Bool) → (b || list_any (has types s key) es) ≡ false → (list_any (has types s key) es ≡ false → ranks_with types s key (rank + 1) es ≡ []) → cond b (rank ∷ ranks_with types s key (rank + 1) es) (ranks_with types s key (rank + 1) es) ≡ []
    by true h rest = absurd cc
    by false h rest = rest h

-- ---- the rows of a slot

module _ (types : List AttributeType) (es : List EntryContent) (s : Slot) where
  abbrev keys : List (List ℕ)
  keys = flat_map (λ e. entry_keys types e.attrs s.type_id s.kind) es

  abbrev ranks : List ℕ → List ℕ
  ranks key = ranks_with types s key 0 es

  abbrev found : List ℕ → Bool → Option (List ℕ)
  found q b = cond b (Some (ranks q)) None

  found_is : (q : List ℕ) → find (slice_cmp nat_cmp) q (slot_rows types es s) ≡ found q (list_any (λ k. bytes_eq k q) keys)
  found_is q =
      sym (finite.get-entries (finite.from_entries {R = slice_cmp nat_cmp} (map (λ key. (key, ranks key)) keys)) q)
      ∙ finite.get-from_entries nat_list_cmp_total (map (λ key. (key, ranks key)) keys) q
      ∙ find_each ranks keys q

  sorted : T (is_sorted (slice_cmp nat_cmp) (slot_rows types es s))
  sorted = finite.entries_sorted (finite.from_entries {R = slice_cmp nat_cmp} (map (λ key. (key, ranks key)) keys))

  module _ (bytes : AllByRecursion AreBytes keys) where
    row_is : (q rs : List ℕ) → find (slice_cmp nat_cmp) q (slot_rows types es s) ≡ Some rs → IsRow (length es) (q, rs)
    row_is q rs at = by (list_any (λ k. bytes_eq k q) keys) refl (sym (found_is q) ∙ at)
      where
        by : (b : Bool) → list_any (λ k. bytes_eq k q) keys ≡ b → found q b ≡ Some rs → IsRow (length es) (q, rs)
        by true there is =
            let same : ranks q ≡ rs = cc in
            subst (λ (rs : List ℕ). IsRow (length es) (q, rs)) same (record {
              key = each_byte q (one_of q keys bytes there);
              some = some_ranks types s q 0 es (sym (any_key types s es q) ∙ there);
              rising = numbers_rise (ranks q) (ranks_rise types s q 0 es);
              within = ranks_within types s q (length es) 0 es (omega arith);
            })
        by false none is = absurd cc

    rows_are : AreSlotRows (length es) (slot_rows types es s)
    rows_are = record {
      each = all_found (slice_cmp nat_cmp) nat_list_cmp_total (λ q rs. IsRow (length es) (q, rs)) (slot_rows types es s) sorted row_is;
      rising = keys_rise (slot_rows types es s) sorted;
    }

  -- ---- what they show

  kept_is : (rows : List Row) (q : List ℕ) → lookup (bytes_eq q) (kept_rows rows) ≡ option_map (λ (rs : List ℕ). set.from_list {R = nat_cmp} rs) (find (slice_cmp nat_cmp) q rows)
  kept_is [] q = refl
  kept_is (row ∷ rows) q =
      ap (λ o. cond (bytes_eq q row.0) (Some (set.from_list row.1)) o) (kept_is rows q)
      ∙ ap (λ b. cond b (Some (set.from_list {R = nat_cmp} row.1)) (option_map (λ (rs : List ℕ). set.from_list {R = nat_cmp} rs) (find (slice_cmp nat_cmp) q rows))) (sym (is_eq-slice_cmp q row.0))
      ∙ by _
    where
      by : (b : Bool) → cond b (Some (set.from_list {R = nat_cmp} row.1)) (option_map (λ (rs : List ℕ). set.from_list {R = nat_cmp} rs) (find (slice_cmp nat_cmp) q rows)) ≡ option_map (λ (rs : List ℕ). set.from_list {R = nat_cmp} rs) (cond b (Some row.1) (find (slice_cmp nat_cmp) q rows))
      by true = refl
      by false = refl

  members_are : (q : List ℕ) → kept.members_at (kept_rows (slot_rows types es s)) q ≡ set.from_list (ranks q)
  members_are q =
      ap (λ o. unwrap_or o set.empty) (kept_is (slot_rows types es s) q ∙ ap (option_map (λ (rs : List ℕ). set.from_list {R = nat_cmp} rs)) (found_is q))
      ∙ by (list_any (λ k. bytes_eq k q) keys) refl
    where
      by : (b : Bool) → list_any (λ k. bytes_eq k q) keys ≡ b → unwrap_or (option_map (λ (rs : List ℕ). set.from_list {R = nat_cmp} rs) (found q b)) set.empty ≡ set.from_list (ranks q)
      by true there = refl
      by false none = ap (λ (rs : List ℕ). set.from_list {R = nat_cmp} rs) (sym (no_ranks types s q 0 es (sym (any_key types s es q) ∙ none)))

-- ---- all slots

module _ (conf : Conf) (d : Entries) where
  at_place : (ss : List Slot) (place : ℕ) (s : Slot) → slice_get ss place ≡ Some s
      → slice_index_or (kept_slots (map (λ s. (s, slot_rows conf.types (contents d) s)) ss)) place [] ≡ kept_rows (slot_rows conf.types (contents d) s)
  at_place [] place s at = absurd cc
  at_place (t ∷ ts) zero s at = ap (λ (s : Slot). kept_rows (slot_rows conf.types (contents d) s)) (let same : t ≡ s = cc in same)
  at_place (t ∷ ts) (suc n) s at = at_place ts n s at

  pub shows : ShowsIndexText (shown_by (stored conf (index_rows conf d))) conf d
  shows = record {
    slots = λ t kind. refl;
    ranks = λ place s key at.
        ap (λ (rows : List kept.Row). kept.members_at rows key) (at_place conf.slots place s at)
        ∙ members_are conf.types (contents d) s key;
  }

  module _ (c : IsConf conf) (directory : IsDirectory conf d) where
    good : AllByRecursion (λ (e : Path × EntryContent). IsGood conf e.1) (finite.entries d)
    good = all_found path_cmp path_total (λ p e. IsGood conf e) (finite.entries d) (finite.entries_sorted d) (λ p e at. directory.good p e (finite.get-entries d p ∙ at))

    keys_are : (s : Slot) (es : List (Path × EntryContent)) → AllByRecursion (λ (e : Path × EntryContent). IsGood conf e.1) es → AllByRecursion AreBytes (keys conf.types (map (λ e. e.1) es) s)
    keys_are s [] h = tt
    keys_are s (e ∷ es) h = all_more (entry_keys conf.types e.1.attrs s.type_id s.kind) (keys conf.types (map (λ e. e.1) es) s) (keys_bytes conf c e.1.attrs s.type_id s.kind h.0.attrs) (keys_are s es h.1)

    count : length (contents d) ≡ finite.len d
    count = length-map (finite.entries d) (λ e. e.1) ∙ sym (finite.len-entries d)

    slots_are : (ss : List Slot) → map slot_of (map (λ s. (s, slot_rows conf.types (contents d) s)) ss) ≡ ss
    slots_are [] = refl
    slots_are (s ∷ ss) = ap (λ (ss : List Slot). s ∷ ss) (slots_are ss)

    each_is : (ss : List Slot) → AllByRecursion (λ (s : Slot × List Row). AreSlotRows (finite.len d) s.1) (map (λ s. (s, slot_rows conf.types (contents d) s)) ss)
    each_is [] = tt
    each_is (s ∷ ss) = (subst (λ (n : ℕ). AreSlotRows n (slot_rows conf.types (contents d) s)) count (rows_are conf.types (contents d) s (keys_are s (finite.entries d) good)), each_is ss)

    pub are_rows : AreRows conf.slots (finite.len d) (index_rows conf d)
    are_rows = record { slots = slots_are conf.slots; each = each_is conf.slots }
