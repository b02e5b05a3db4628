-- What a binary search tells of keys in order.
use Rattle.std.proofs.Common.{◌≡◌, ℕ, suc, ◌<◌, ◌≤◌, false, List, [], ◌∷◌, length, get_or, Result, Ok, Err, inl, inr, refl, sym, ap, subst, ◌∙◌, arith}
use Rattle.std.specs.Prelude.{is_ok, ◌||◌}
use Rattle.std.specs.List.{list_any}
use Rattle.std.specs.List.Sorted.{IsStrictlySortedBy, IsBinarySearchResult, IsSearchInRange, IsNonDecreasingBy}
use Rattle.std.specs.declared.cmp.Ordering.{Ordering}
use Rattle.std.specs.declared.cmp.Ordering.TheVariants.{Less, Equal, Greater}
use Rattle.std.specs.Ordering.{nat_cmp, is_eq, ordering_index}
use Rattle.std.specs.Cmp.Lexicographic.{slice_cmp, nat_list_cmp_total}
use Rattle.std.specs.Str.{bytes_eq}
use Rattle.std.proofs.lemmas.Bool.{cases_lt}
use Rattle.std.proofs.lemmas.List.Folds.{list_any_at}
use Rattle.std.proofs.lemmas.Map.Keys.{Less-from_sorted}
use Rattle.std.proofs.lemmas.Map.Lookups.{exact_bytes}
use Rattle.std.proofs.lemmas.Map.Text.{is_eq-slice_cmp}

abbrev bytes_cmp : List ℕ → List ℕ → Ordering
bytes_cmp = slice_cmp nat_cmp

rank_le : (a b x : List ℕ) → bytes_cmp a b ≡ Less → (r : Ordering) → bytes_cmp b x ≡ r → ordering_index (bytes_cmp a x) ≤ ordering_index r
rank_le a b x less Less is = let h : bytes_cmp a x ≡ Less = nat_list_cmp_total.trans a b x less is in let z : ordering_index (bytes_cmp a x) ≡ 0 = ap ordering_index h in omega (arith, z)
rank_le a b x less Equal is = let h : bytes_cmp a x ≡ Less = ap (bytes_cmp a) (sym (exact_bytes b x is)) ∙ less in let z : ordering_index (bytes_cmp a x) ≡ 0 = ap ordering_index h in omega (arith, z)
rank_le a b x less Greater is = by (bytes_cmp a x)
  where
    by : (r : Ordering) → ordering_index r ≤ 2
    by Less = omega arith
    by Equal = omega arith
    by Greater = omega arith

-- the keys are what text reads of the elements
module _ {K : Type 0} (text : K → List ℕ) where
  rises : (ks : List K) (x : K) → IsStrictlySortedBy (λ a b. bytes_cmp (text a) (text b)) ks → IsNonDecreasingBy (λ y. ordering_index (bytes_cmp (text y) (text x))) ks
  rises ks x h i j d le lt = elim (cases_lt i j) as (λ _. ordering_index (bytes_cmp (text (get_or ks i d)) (text x)) ≤ ordering_index (bytes_cmp (text (get_or ks j d)) (text x))) [
    | inl less ↦ rank_le (text (get_or ks i d)) (text (get_or ks j d)) (text x) (Less-from_sorted (λ a b. bytes_cmp (text a) (text b)) ks i j d h less lt) (bytes_cmp (text (get_or ks j d)) (text x)) refl
    | inr more ↦ (let same : i ≡ j = omega (arith, le, more) in subst (λ k. ordering_index (bytes_cmp (text (get_or ks i d)) (text x)) ≤ ordering_index (bytes_cmp (text (get_or ks k d)) (text x))) same (omega arith))
  ]

  none : (ks : List K) (x : K) → ((k : ℕ) → k < length ks → bytes_eq (text (get_or ks k x)) (text x) ≡ false) → list_any (λ k. bytes_eq (text k) (text x)) ks ≡ false
  none [] x h = refl
  none (k ∷ ks) x h = ap (λ b. b || list_any (λ k. bytes_eq (text k) (text x)) ks) (h 0 (omega arith)) ∙ none ks x (λ i lt. h (suc i) (omega (arith, lt)))

  not_same : (a x : K) (r : Ordering) → bytes_cmp (text a) (text x) ≡ r → is_eq r ≡ false → bytes_eq (text a) (text x) ≡ false
  not_same a x r is other = sym (is_eq-slice_cmp (text a) (text x)) ∙ ap is_eq is ∙ other

  pub found : (ks : List K) (x : K) (r : Result ℕ ℕ) → IsStrictlySortedBy (λ a b. bytes_cmp (text a) (text b)) ks → IsSearchInRange r (length ks) → IsBinarySearchResult (λ y. bytes_cmp (text y) (text x)) ks r → is_ok r ≡ list_any (λ k. bytes_eq (text k) (text x)) ks
  found ks x (Ok i) h within at = sym (list_any_at (λ k. bytes_eq (text k) (text x)) ks i x within (sym (is_eq-slice_cmp (text (get_or ks i x)) (text x)) ∙ ap is_eq (at x)))
  found ks x (Err i) h within at =
      let parts = at (rises ks x h) in
      sym (none ks x (λ k lt. elim (cases_lt k i) as (λ _. bytes_eq (text (get_or ks k x)) (text x) ≡ false) [
        | inl less ↦ not_same (get_or ks k x) x Less (parts.0 k x (omega arith) less) refl
        | inr more ↦ not_same (get_or ks k x) x Greater (parts.1 k x more lt) refl
      ]))
