-- Keys with ranks that are sorted, each once.
use Rattle.std.proofs.Common.{◌≡◌, ℕ, Bool, true, false, cond, ◌&&◌, ◌||◌, nat_eq, List, [], ◌∷◌, map, bytes_eq, refl, sym, ap, subst, ◌∙◌}
use Rattle.std.specs.List.{list_any, dedup, dedup_from, AllByRecursion}
use Rattle.std.specs.List.Retain.{IsFiltered, DiffersFromLast}
use Rattle.std.specs.List.Sorted.{IsPermutation, IsSorted, IsStrictlySortedBy}
use Rattle.std.specs.declared.cmp.Ordering.{Ordering}
use Rattle.std.specs.declared.cmp.Ordering.TheVariants.{Less, Equal, Greater}
use Rattle.std.specs.Ordering.{nat_cmp, is_eq, eq_by_cmp, ordering_then}
use Rattle.std.specs.Cmp.{IsTotalOrder, unsigned_tied}
use Rattle.std.specs.Cmp.Lexicographic.{slice_cmp}
use Rattle.std.proofs.lemmas.Bool.{and_parts, eqb-true}
use Rattle.std.proofs.lemmas.List.Filters.{dedup_is}
use Rattle.std.proofs.lemmas.List.Kept.{IsStrictlySortedBy-dedup}
use Rattle.std.proofs.lemmas.List.Sorted.{list_any-IsPermutation}
use Rattle.std.proofs.lemmas.Map.Text.{is_eq-slice_cmp}
use Rattle.index_text.proofs.SlotKeyOrder.{same_bytes}
use Rattle.index_keys.specs.RankedKeys.{Ranked, ranked_cmp, is_among}

-- ---- pairs that compare as the same are the same

then_is : (a b : Ordering) → is_eq (ordering_then a b) ≡ (is_eq a && is_eq b)
then_is Less b = refl
then_is Equal b = refl
then_is Greater b = refl

tied_is : (p q : Ranked) → eq_by_cmp ranked_cmp p q ≡ (bytes_eq p.0 q.0 && nat_eq p.1 q.1)
tied_is p q =
    then_is (slice_cmp nat_cmp p.0 q.0) (nat_cmp p.1 q.1)
    ∙ ap (λ b. b && is_eq (nat_cmp p.1 q.1)) (is_eq-slice_cmp p.0 q.0)
    ∙ ap (λ b. bytes_eq p.0 q.0 && b) (unsigned_tied p.1 q.1)

same_pair : (p q : Ranked) → eq_by_cmp ranked_cmp p q ≡ true → p ≡ q
same_pair p q h =
    let parts = and_parts (bytes_eq p.0 q.0) (nat_eq p.1 q.1) (sym (tied_is p q) ∙ h) in
    let keys : p.0 ≡ q.0 = same_bytes p.0 q.0 parts.0 in
    let ranks : p.1 ≡ q.1 = eqb-true p.1 q.1 parts.1 in
    λ i. (keys i, ranks i)

-- ---- one of several that are the same

once : (a b : Bool) → (a || b) ≡ (a || (a || b))
once true b = refl
once false b = refl

module _ {A : Type 0} (test : A → Bool) (same : A → A → Bool) (alike : (x y : A) → same x y ≡ true → test x ≡ test y) where
  any_behind : (k : A) (xs : List A) → list_any test (dedup_from same k xs) ≡ (test k || list_any test xs)
  any_behind k [] = refl
  any_behind k (x ∷ xs) = by (same x k) refl (any_behind k xs) (any_behind x xs)
    where
      by : (b : Bool) → same x k ≡ b → list_any test (dedup_from same k xs) ≡ (test k || list_any test xs) → list_any test (dedup_from same x xs) ≡ (test x || list_any test xs)
          → list_any test (cond b (dedup_from same k xs) (k ∷ dedup_from same x xs)) ≡ (test k || (test x || list_any test xs))
      by true tie first second = first ∙ once (test k) (list_any test xs) ∙ ap (λ b. test k || (b || list_any test xs)) (sym (alike x k tie))
      by false apart first second = ap (λ b. test k || b) second

  any_once : (xs : List A) → list_any test (dedup same xs) ≡ list_any test xs
  any_once [] = refl
  any_once (x ∷ xs) = any_behind x xs

-- ---- keys with ranks

any_pair : {A : Type 0} (pair : A → Ranked) (test : Ranked → Bool) (xs : List A) → list_any test (map pair xs) ≡ list_any (λ x. test (pair x)) xs
any_pair pair test [] = refl
any_pair pair test (x ∷ xs) = ap (λ b. test (pair x) || b) (any_pair pair test xs)

all_pairs : {A : Type 0} (pair : A → Ranked) (cmp : A → A → Ordering) (is : (x y : A) → cmp x y ≡ ranked_cmp (pair x) (pair y)) (x : A) (xs : List A) → AllByRecursion (λ y. cmp x y ≡ Less) xs → AllByRecursion (λ q. ranked_cmp (pair x) q ≡ Less) (map pair xs)
all_pairs pair cmp is x [] h = tt
all_pairs pair cmp is x (y ∷ ys) h = (sym (is x y) ∙ h.0, all_pairs pair cmp is x ys h.1)

pairs_rise : {A : Type 0} (pair : A → Ranked) (cmp : A → A → Ordering) (is : (x y : A) → cmp x y ≡ ranked_cmp (pair x) (pair y)) (xs : List A) → IsStrictlySortedBy cmp xs → IsStrictlySortedBy ranked_cmp (map pair xs)
unfolding IsStrictlySortedBy
pairs_rise pair cmp is [] h = tt
pairs_rise pair cmp is (x ∷ xs) h = (all_pairs pair cmp is x xs h.0, pairs_rise pair cmp is xs h.1)

module _ {A : Type 0} (pair : A → Ranked) (cmp : A → A → Ordering) (same : A → A → Bool) (total : IsTotalOrder cmp) (ties : (x y : A) → same x y ≡ eq_by_cmp cmp x y) (is : (x y : A) → cmp x y ≡ ranked_cmp (pair x) (pair y))
    (given sorted kept : List A) (moved : IsPermutation given sorted) (up : IsSorted cmp sorted) (filtered : IsFiltered (DiffersFromLast same) [] sorted kept) where
  kept_is : kept ≡ dedup same sorted
  kept_is = dedup_is same sorted kept filtered

  pub rise : IsStrictlySortedBy ranked_cmp (map pair kept)
  rise = pairs_rise pair cmp is kept (subst (IsStrictlySortedBy cmp) (sym kept_is) (IsStrictlySortedBy-dedup total ties sorted up))

  pub among : (q : List ℕ) (n : ℕ) → is_among (map pair kept) q n ≡ is_among (map pair given) q n
  among q n =
      any_pair pair (λ p. nat_eq n p.1 && bytes_eq p.0 q) kept
      ∙ ap (list_any test) kept_is
      ∙ any_once test same alike sorted
      ∙ sym (list_any-IsPermutation test given sorted moved)
      ∙ sym (any_pair pair (λ p. nat_eq n p.1 && bytes_eq p.0 q) given)
    where
      test : A → Bool
      test x = nat_eq n (pair x).1 && bytes_eq (pair x).0 q

      alike : (x y : A) → same x y ≡ true → test x ≡ test y
      alike x y tie = ap (λ (p : Ranked). nat_eq n p.1 && bytes_eq p.0 q) (same_pair (pair x) (pair y) (sym (ties x y ∙ ap is_eq (is x y)) ∙ tie))
