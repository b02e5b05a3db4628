-- The rows of an index: the ranks rise, and a row is found by its key.
use Rattle.std.proofs.Common.{◌≡◌, ℕ, ◌+◌, ◌<◌, Bool, true, false, cond, ◌||◌, List, [], ◌∷◌, map, Some, None, refl, sym, ap, ◌∙◌, arith}
use Rattle.std.specs.Prelude.{T}
use Rattle.std.specs.List.{list_any, flat_map}
use Rattle.std.specs.Ordering.{nat_cmp}
use Rattle.std.specs.Cmp.Lexicographic.{slice_cmp, nat_list_eq_equiv, bytes_decides}
use Rattle.std.specs.Str.{bytes_eq}
use Rattle.std.specs.FinMap.Entries.{find}
use Rattle.std.proofs.lemmas.List.Folds.{list_any-append}
use Rattle.std.proofs.lemmas.Map.Text.{is_eq-slice_cmp}
use Rattle.id_sets.specs.Ascending.{AllAbove, IsAscending}
use Rattle.values.specs.declared.types.AttributeType.{AttributeType}
use Rattle.schema.specs.declared.slots.Slot.{Slot}
use Rattle.entries.specs.Entries.{EntryContent}
use Rattle.index_keys.specs.EntryKeys.{entry_keys, has_key}
use Rattle.databases.specs.IndexTexts.{ranks_with}

-- ---- ranks rise

ranks_above : (types : List AttributeType) (s : Slot) (key : List ℕ) (low rank : ℕ) (es : List EntryContent) → low < rank → AllAbove low (ranks_with types s key rank es)
ranks_above types s key low rank [] lt = tt
ranks_above types s key low rank (e ∷ es) lt = by (has_key types e.attrs s.type_id s.kind key) (ranks_above types s key low (rank + 1) es (omega (arith, lt)))
  where
    by : (b : Bool) → AllAbove low (ranks_with types s key (rank + 1) es) → AllAbove low (cond b (rank ∷ ranks_with types s key (rank + 1) es) (ranks_with types s key (rank + 1) es))
    by true rest = (lt, rest)
    by false rest = rest

pub ranks_rise : (types : List AttributeType) (s : Slot) (key : List ℕ) (rank : ℕ) (es : List EntryContent) → IsAscending (ranks_with types s key rank es)
ranks_rise types s key rank [] = tt
ranks_rise types s key rank (e ∷ es) = by (has_key types e.attrs s.type_id s.kind key) (ranks_rise types s key (rank + 1) es)
  where
    by : (b : Bool) → IsAscending (ranks_with types s key (rank + 1) es) → IsAscending (cond b (rank ∷ ranks_with types s key (rank + 1) es) (ranks_with types s key (rank + 1) es))
    by true rest = (ranks_above types s key rank (rank + 1) es (omega arith), rest)
    by false rest = rest

-- ---- look-ups by key

bytes_turned : (k q : List ℕ) → bytes_eq k q ≡ bytes_eq q k
bytes_turned k q = nat_list_eq_equiv.symm k q

pub same_bytes : (a b : List ℕ) → bytes_eq a b ≡ true → a ≡ b
same_bytes a b e = (bytes_decides a b).0 e

-- each key of a list with what belongs to it
pub find_each : {X : Type 0} (f : List ℕ → X) (ks : List (List ℕ)) (q : List ℕ) → find (slice_cmp nat_cmp) q (map (λ k. (k, f k)) ks) ≡ cond (list_any (λ k. bytes_eq k q) ks) (Some (f q)) None
find_each f [] q = refl
find_each f (k ∷ ks) q =
    ap (λ b. cond b (Some (f k)) (find (slice_cmp nat_cmp) q (map (λ k. (k, f k)) ks))) (is_eq-slice_cmp q k ∙ sym (bytes_turned k q))
    ∙ by (bytes_eq k q) refl (find_each f ks q)
  where
    by : (b : Bool) → bytes_eq k q ≡ b → find (slice_cmp nat_cmp) q (map (λ k. (k, f k)) ks) ≡ cond (list_any (λ k. bytes_eq k q) ks) (Some (f q)) None
        → cond b (Some (f k)) (find (slice_cmp nat_cmp) q (map (λ k. (k, f k)) ks)) ≡ cond (b || list_any (λ k. bytes_eq k q) ks) (Some (f q)) None
    by true same rest = ap (λ (p : List ℕ). Some (f p)) (same_bytes k q same)
    by false apart rest = rest

pub any_key : (types : List AttributeType) (s : Slot) (es : List EntryContent) (q : List ℕ) → list_any (λ k. bytes_eq k q) (flat_map (λ e. entry_keys types e.attrs s.type_id s.kind) es) ≡ list_any (λ e. has_key types e.attrs s.type_id s.kind q) es
any_key types s [] q = refl
any_key types s (e ∷ es) q =
    list_any-append (λ k. bytes_eq k q) (entry_keys types e.attrs s.type_id s.kind) (flat_map (λ e. entry_keys types e.attrs s.type_id s.kind) es)
    ∙ ap (λ b. has_key types e.attrs s.type_id s.kind q || b) (any_key types s es q)

pub is_T : (b : Bool) → b ≡ true → T b
is_T true h = tt
is_T false h = absurd cc
