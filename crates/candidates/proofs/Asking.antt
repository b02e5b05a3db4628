-- Steps of loops over what asks for keys.
use Rattle.std.proofs.Common.{◌≡◌, ℕ, ◌+◌, ◌<◌, List, ◌++◌, map, length, get_or, drop, Option, append_assoc, sym, ap, ◌∙◌}
use Rattle.std.proofs.lemmas.List.{drop_more, map-append}
use Rattle.std.specs.List.{flat_map}
use Rattle.schema.specs.declared.slots.IndexKind.{IndexKind}
use Rattle.filter.specs.declared.prepared_filter.PreparedFilter.{PreparedFilter}
use Rattle.filter.specs.Prepared.{prepared_view, prepared_views}
use Rattle.index_keys.specs.EntryKeys.{windows}
use Rattle.index_text.specs.SlotKeys.{slot_key}
use Rattle.index_text.specs.declared.slot_key.SlotKey.{SlotKey}
use Rattle.candidates.specs.Asked.{asked_keys, asked_keys_each}

module _ (front next : List SlotKey) where
  -- keys that come behind others
  behind : (one rest all : List SlotKey) → next ≡ front ++ one → all ≡ one ++ rest → next ++ rest ≡ front ++ all
  behind one rest all put is = ap (λ ks. ks ++ rest) put ∙ append_assoc front one rest ∙ sym (ap (λ ks. front ++ ks) is)

  -- the windows of one more piece
  pub piece_put : (slot : ℕ) (xs : List (List ℕ)) (i : ℕ) (d : List ℕ) → i < length xs → next ≡ front ++ map (slot_key slot) (windows (get_or xs i d))
      → next ++ map (slot_key slot) (flat_map windows (drop (i + 1) xs)) ≡ front ++ map (slot_key slot) (flat_map windows (drop i xs))
  piece_put slot xs i d lt put =
      behind (map (slot_key slot) (windows (get_or xs i d))) (map (slot_key slot) (flat_map windows (drop (i + 1) xs))) (map (slot_key slot) (flat_map windows (drop i xs))) put
      (ap (λ (ys : List (List ℕ)). map (slot_key slot) (flat_map windows ys)) (drop_more xs i d lt) ∙ map-append (slot_key slot) (windows (get_or xs i d)) (flat_map windows (drop (i + 1) xs)))

  -- what one more operand asks for
  pub operand_put : (slot_of : ℕ → IndexKind → Option ℕ) (fs : List PreparedFilter) (i : ℕ) (d : PreparedFilter) → i < length fs → next ≡ front ++ asked_keys slot_of (prepared_view (get_or fs i d))
      → next ++ asked_keys_each slot_of (prepared_views (drop (i + 1) fs)) ≡ front ++ asked_keys_each slot_of (prepared_views (drop i fs))
  operand_put slot_of fs i d lt put =
      behind (asked_keys slot_of (prepared_view (get_or fs i d))) (asked_keys_each slot_of (prepared_views (drop (i + 1) fs))) (asked_keys_each slot_of (prepared_views (drop i fs))) put
      (ap (λ (gs : List PreparedFilter). asked_keys_each slot_of (prepared_views gs)) (drop_more fs i d lt))
