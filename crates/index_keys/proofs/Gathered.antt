-- The keys of the normal forms that a loop has gone through.
use Rattle.std.proofs.Common.{◌≡◌, ℕ, ◌+◌, ◌<◌, ◌≤◌, Bool, true, false, ◌&&◌, ◌||◌, nat_eq, List, [], ◌∷◌, ◌++◌, length, get_or, take, drop, bytes_eq, refl, sym, ap, ap₂, ◌∙◌}
use Rattle.std.proofs.Math.Seq.{take-append_seam, drop-append_seam}
use Rattle.std.proofs.lemmas.List.{drop_more, take_more, take_all, flat_map_more, map-append, append-nil}
use Rattle.std.proofs.lemmas.List.Folds.{list_any-append, list_any_more}
use Rattle.std.specs.List.{list_any}
use Rattle.std.specs.List.Sorted.{IsStrictlySortedBy}
use Rattle.schema.specs.declared.slots.IndexKind.{IndexKind}
use Rattle.schema.specs.declared.slots.IndexKind.TheVariants.{Substrings}
use Rattle.index_keys.specs.declared.type_norms.NumberedNorm.{NumberedNorm}
use Rattle.index_keys.specs.EntryKeys.{keys_by, windows}
use Rattle.index_keys.specs.TypeNorms.{has_by}
use Rattle.index_keys.specs.declared.ranked_norm.RankedNorm.{RankedNorm}
use Rattle.index_keys.specs.RankedKeys.{Ranked, ranked_cmp, is_among, joined, AreRanked}
use Rattle.index_keys.specs.Pairs.{norm_pairs}
use Rattle.index_keys.specs.inner.AddedWindows.{AddsWindows}

in_one : (a b : Bool) → ((a && b) || false) ≡ (a && (b || false))
in_one true b = refl
in_one false b = refl

module _ (kind : IndexKind) (ns : List NumberedNorm) (i : ℕ) where
  pub all_gathered : (ps all : List Ranked) → length ns ≤ i → IsStrictlySortedBy ranked_cmp ps
      → ((q : List ℕ) (n : ℕ) → is_among ps q n ≡ is_among all q n)
      → ((q : List ℕ) (n : ℕ) → is_among all q n ≡ has_by kind (take i ns) q n)
      → AreRanked kind ns ps
  all_gathered ps all le rise same so_far = record { rise = rise; exact = λ q n. same q n ∙ so_far q n ∙ ap (λ (xs : List NumberedNorm). has_by kind xs q n) (take_all i ns le) }

  module _ (d : NumberedNorm) where
    pub key_more : (ks new : List RankedNorm) (k : RankedNorm) → i < length ns → new ≡ ks ++ k ∷ []
        → keys_by kind ((get_or ns i d).norm.now ∷ []) ≡ k.key.norm.now ∷ [] → k.rank ≡ (get_or ns i d).number
        → ((q : List ℕ) (n : ℕ) → is_among (norm_pairs ks) q n ≡ has_by kind (take i ns) q n)
        → (q : List ℕ) (n : ℕ) → is_among (norm_pairs new) q n ≡ has_by kind (take (i + 1) ns) q n
    key_more ks new k lt added key rank so_far q n =
        let pairs : norm_pairs new ≡ norm_pairs ks ++ (k.key.norm.now, k.rank) ∷ [] = ap norm_pairs added ∙ map-append _ ks (k ∷ []) in
        ap (λ (ps : List Ranked). is_among ps q n) pairs
        ∙ list_any-append _ (norm_pairs ks) ((k.key.norm.now, k.rank) ∷ [])
        ∙ ap₂ ◌||◌ (so_far q n) (in_one (nat_eq n k.rank) (bytes_eq k.key.norm.now q) ∙ ap₂ (λ (r : ℕ) (keys : List (List ℕ)). nat_eq n r && list_any (λ k. bytes_eq k q) keys) rank (sym key))
        ∙ sym (list_any_more _ ns i d lt)

pub windows_more : (ns : List NumberedNorm) (i : ℕ) (d : NumberedNorm) (old new : List Ranked) → i < length ns
    → AddsWindows (get_or ns i d).norm.now (get_or ns i d).number old new
    → ((q : List ℕ) (n : ℕ) → is_among old q n ≡ has_by Substrings (take i ns) q n)
    → (q : List ℕ) (n : ℕ) → is_among new q n ≡ has_by Substrings (take (i + 1) ns) q n
windows_more ns i d old new lt added so_far q n =
    added q n
    ∙ ap₂ ◌||◌ (so_far q n) (ap (λ (keys : List (List ℕ)). nat_eq n (get_or ns i d).number && list_any (λ k. bytes_eq k q) keys) (sym (append-nil (windows (get_or ns i d).norm.now))))
    ∙ sym (list_any_more _ ns i d lt)

module _ (ns : List NumberedNorm) (i : ℕ) (d : NumberedNorm) (left : List ℕ) (lt : i < length ns) (is : left ≡ joined (drop i ns)) where
  cut : left ≡ (get_or ns i d).norm.now ++ joined (drop (i + 1) ns)
  cut = is ∙ ap joined (drop_more ns i d lt)

  pub norm_in_front : (front : List ℕ) → front ≡ take (length (get_or ns i d).norm.now) left → front ≡ (get_or ns i d).norm.now
  norm_in_front front h = h ∙ ap (take (length (get_or ns i d).norm.now)) cut ∙ take-append_seam (get_or ns i d).norm.now (joined (drop (i + 1) ns))

  pub rest_behind : (back : List ℕ) → back ≡ drop (length (get_or ns i d).norm.now) left → back ≡ joined (drop (i + 1) ns)
  rest_behind back h = h ∙ ap (drop (length (get_or ns i d).norm.now)) cut ∙ drop-append_seam (get_or ns i d).norm.now (joined (drop (i + 1) ns))

pub joined_more : (ns : List NumberedNorm) (i : ℕ) (d : NumberedNorm) (old new : List ℕ) → i < length ns → new ≡ old ++ (get_or ns i d).norm.now → old ≡ joined (take i ns)
    → new ≡ joined (take (i + 1) ns)
joined_more ns i d old new lt added so_far =
    added
    ∙ ap (λ (bytes : List ℕ). bytes ++ (get_or ns i d).norm.now) so_far
    ∙ flat_map_more (λ (x : NumberedNorm). x.norm.now) [] (take i ns) (get_or ns i d)
    ∙ ap joined (sym (take_more ns i d lt))
