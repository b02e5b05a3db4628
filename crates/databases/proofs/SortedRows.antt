-- The rows of a slot are those of its keys, sorted.
use Rattle.std.proofs.Common.{◌≡◌, ℕ, ◌+◌, Bool, true, false, cond, ◌&&◌, ◌||◌, nat_eq, List, [], ◌∷◌, map, Some, None, refl, sym, ap, ◌∙◌}
use Rattle.std.specs.List.{list_any, flat_map}
use Rattle.std.specs.List.Sorted.{IsStrictlySortedBy}
use Rattle.std.specs.Ordering.{nat_cmp}
use Rattle.std.specs.Cmp.{nat_eq_equiv}
use Rattle.std.specs.Cmp.Lexicographic.{slice_cmp, nat_list_cmp_total}
use Rattle.std.specs.FinMap as finite
use Rattle.std.specs.FinMap.Entries.{same_entries}
use Rattle.std.proofs.lemmas.List.Sorted.{list_any-IsPermutation}
use Rattle.std.proofs.lemmas.Map.Lookups.{exact_bytes}
use Rattle.id_sets.specs.Lists.{holds}
use Rattle.id_sets.proofs.Ascending.{ascending_same}
use Rattle.values.specs.declared.types.AttributeType.{AttributeType}
use Rattle.schema.specs.declared.slots.IndexKind.{IndexKind}
use Rattle.schema.specs.declared.slots.Slot.{Slot}
use Rattle.schema.specs.Conf.{Conf}
use Rattle.entries.specs.Entries.{EntryContent}
use Rattle.entries.specs.StoredEntries.{attributes_of}
use Rattle.tree.specs.Directories.{Entries}
use Rattle.index_keys.specs.declared.type_norms.Numbered.{Numbered}
use Rattle.index_keys.specs.declared.type_norms.NumberedNorm.{NumberedNorm}
use Rattle.index_keys.specs.EntryKeys.{entry_keys, has_key}
use Rattle.index_keys.specs.TypeNorms.{has_for, AreNormsOf}
use Rattle.index_text.specs.IndexTexts.{ended, key_line}
use Rattle.index_keys.specs.RankedKeys.{Ranked, ranked_cmp, is_among, rows_of, rows_text, AreRanked}
use Rattle.index_keys.proofs.RowsInOrder.{and_true, and_false, ranks_at, some_of, among_is, rows_are}
use Rattle.index_keys.proofs.RowsInOrder as sorted
use Rattle.databases.specs.IndexTexts.{ranks_with, slot_rows, contents, keys_lines}
use Rattle.databases.specs.inner.RankedEntries.{AreFrom, AreRankedEntries}
use Rattle.databases.proofs.IndexRows.{ranks_rise, find_each, any_key, is_T}

module _ (types : List AttributeType) (s : Slot) where
  abbrev has : List ℕ → EntryContent → Bool
  has key c = has_key types c.attrs s.type_id s.kind key

  has_is : (key : List ℕ) (n rank : ℕ) (cs : List EntryContent) (es : List Numbered) → AreFrom rank cs es → holds (ranks_with types s key rank cs) n ≡ has_for types es s.type_id s.kind key n
  has_is key n rank [] [] h = refl
  has_is key n rank [] (e ∷ es) h = absurd h
  has_is key n rank (c ∷ cs) [] h = absurd h
  has_is key n rank (c ∷ cs) (e ∷ es) h =
      by (has key c)
      ∙ ap (λ b. (nat_eq n rank && has key c) || b) (has_is key n (rank + 1) cs es h.2)
      ∙ (λ i. (nat_eq n (sym h.0 i) && has_key types (sym h.1 i) s.type_id s.kind key) || has_for types es s.type_id s.kind key n)
    where
      by : (b : Bool) → holds (cond b (rank ∷ ranks_with types s key (rank + 1) cs) (ranks_with types s key (rank + 1) cs)) n ≡ ((nat_eq n rank && b) || holds (ranks_with types s key (rank + 1) cs) n)
      by true = ap (λ b. b || holds (ranks_with types s key (rank + 1) cs) n) (nat_eq_equiv.symm rank n ∙ and_true (nat_eq n rank))
      by false = and_false (nat_eq n rank) (holds (ranks_with types s key (rank + 1) cs) n)

  some_is : (key : List ℕ) (rank : ℕ) (cs : List EntryContent) → cond (list_any (has key) cs) (Some (ranks_with types s key rank cs)) None ≡ some_of (ranks_with types s key rank cs)
  some_is key rank [] = refl
  some_is key rank (c ∷ cs) = by (has key c) (some_is key (rank + 1) cs)
    where
      by : (b : Bool) → cond (list_any (has key) cs) (Some (ranks_with types s key (rank + 1) cs)) None ≡ some_of (ranks_with types s key (rank + 1) cs)
          → cond (b || list_any (has key) cs) (Some (cond b (rank ∷ ranks_with types s key (rank + 1) cs) (ranks_with types s key (rank + 1) cs))) None ≡ some_of (cond b (rank ∷ ranks_with types s key (rank + 1) cs) (ranks_with types s key (rank + 1) cs))
      by true rest = refl
      by false rest = rest

  module _ (cs : List EntryContent) (es : List Numbered) (from : AreFrom 0 cs es) (ps : List Ranked) (up : IsStrictlySortedBy ranked_cmp ps) (same : (key : List ℕ) (n : ℕ) → is_among ps key n ≡ has_for types es s.type_id s.kind key n) where
    ranks_same : (key : List ℕ) → ranks_at key ps ≡ ranks_with types s key 0 cs
    ranks_same key = ascending_same (ranks_at key ps) (ranks_with types s key 0 cs) (sorted.ranks_rise key ps up) (ranks_rise types s key 0 cs) (λ n. among_is key n ps ∙ same key n ∙ sym (has_is key n 0 cs es from))

    abbrev made : finite.FinMap (slice_cmp nat_cmp) (List ℕ)
    made = finite.from_entries (map (λ key. (key, ranks_with types s key 0 cs)) (flat_map (λ e. entry_keys types e.attrs s.type_id s.kind) cs))

    pub rows_same : rows_of ps ≡ slot_rows types cs s
    rows_same = same_entries (slice_cmp nat_cmp) nat_list_cmp_total exact_bytes (rows_of ps) (slot_rows types cs s)
        (is_T _ (rows_are ps up).sorted)
        (finite.entries_sorted made)
        (λ key. (rows_are ps up).found key
        ∙ ap some_of (ranks_same key)
        ∙ sym (some_is key 0 cs)
        ∙ ap (λ b. cond b (Some (ranks_with types s key 0 cs)) None) (sym (any_key types s cs key))
        ∙ sym (find_each (λ key. ranks_with types s key 0 cs) (flat_map (λ e. entry_keys types e.attrs s.type_id s.kind) cs) key)
        ∙ sym (finite.get-from_entries nat_list_cmp_total _ key)
        ∙ finite.get-entries made key)

-- the lines of the keys that the normal forms of a type give
pub lines_same : (conf : Conf) (d : Entries) (s : Slot) (kind : IndexKind) (es : List Numbered) (ns : List NumberedNorm) (ps : List Ranked) → s.kind ≡ kind → AreRankedEntries conf d es → AreNormsOf conf.types es s.type_id ns → AreRanked kind ns ps
    → rows_text ps ≡ keys_lines conf d s
lines_same conf d s kind es ns ps is entries norms ranked =
    ap (λ rows. flat_map (λ row. ended (key_line row)) rows)
    (rows_same conf.types s (contents d) entries.in_order entries.from ps ranked.rise
    (λ key n. ranked.exact key n ∙ norms kind key n ∙ ap (λ (k : IndexKind). has_for conf.types es s.type_id k key n) (sym is)
    ∙ sym (list_any-IsPermutation (λ (e : Numbered). nat_eq n e.number && has_key conf.types (attributes_of e.entry.now.attrs) s.type_id s.kind key) entries.in_order es entries.moved)))
