-- Keys under slots in lists, slot by slot.
use Rattle.std.proofs.Common.{◌≡◌, ℕ, ◌+◌, ◌<◌, Bool, true, false, ◌&&◌, ◌||◌, List, [], ◌∷◌, ◌++◌, map, nat_eq, nat_lt, refl, sym, ap, subst, ◌∙◌, arith}
use Rattle.std.specs.List.{AllByRecursion, IsDistinct}
use Rattle.std.specs.List.Sorted.{IsStrictlySortedBy}
use Rattle.std.specs.declared.cmp.Ordering.{Ordering}
use Rattle.std.specs.declared.cmp.Ordering.TheVariants.{Less, Equal}
use Rattle.std.specs.Ordering.{nat_cmp, ordering_then}
use Rattle.std.specs.Cmp.{nat_cmp_is}
use Rattle.std.specs.Cmp.Lexicographic.{slice_cmp}
use Rattle.std.proofs.lemmas.Bool.{eqb-true, ltb-true}
use Rattle.std.proofs.lemmas.Bool.Decides.{nat_tests}
use Rattle.std.proofs.lemmas.List.Folds.{list_any-append}
use Rattle.std.proofs.lemmas.Map.Keys.{IsDistinct-from_sorted}
use Rattle.index_text.specs.declared.slot_key.SlotKey.{SlotKey}
use Rattle.index_text.specs.SlotKeys.{slot_key, slot_key_cmp, same_slot_key}
use Rattle.index.specs.inner.KeyLists.{IsWithKeys, AreSlotKeys}
use Rattle.index_keys.proofs.Agreement.{among_slot}
use Rattle.index_text.proofs.SlotKeyOrder.{tied_is}

-- ---- order

module _ {K : Type 0} (cmp : K → K → Ordering) where
  all_append : (P : K → Type 0) (xs ys : List K) → AllByRecursion P xs → AllByRecursion P ys → AllByRecursion P (xs ++ ys)
  all_append P [] ys a b = b
  all_append P (x ∷ xs) ys a b = (a.0, all_append P xs ys a.1 b)

  sorted_append : (xs ys : List K) → IsStrictlySortedBy cmp xs → IsStrictlySortedBy cmp ys → AllByRecursion (λ x. AllByRecursion (λ y. cmp x y ≡ Less) ys) xs → IsStrictlySortedBy cmp (xs ++ ys)
  unfolding IsStrictlySortedBy
  sorted_append [] ys a b h = b
  sorted_append (x ∷ xs) ys a b h = (all_append (λ y. cmp x y ≡ Less) xs ys a.0 h.0, sorted_append xs ys a.1 b h.1)

itself : (n : ℕ) → nat_cmp n n ≡ Equal
itself n = sym (nat_cmp_is n n Equal refl)

before : (m n : ℕ) → m < n → nat_cmp m n ≡ Less
before m n lt = sym (nat_cmp_is m n Less lt)

same_slot : (n : ℕ) (a b : List ℕ) → slot_key_cmp (slot_key n a) (slot_key n b) ≡ slice_cmp nat_cmp a b
same_slot n a b = ap (λ r. ordering_then r (slice_cmp nat_cmp a b)) (itself n)

under_slot : (n : ℕ) (ks : List (List ℕ)) → IsStrictlySortedBy (slice_cmp nat_cmp) ks → IsStrictlySortedBy slot_key_cmp (map (slot_key n) ks)
unfolding IsStrictlySortedBy
under_slot n [] h = tt
under_slot n (k ∷ ks) h = (less ks h.0, under_slot n ks h.1)
  where
    less : (others : List (List ℕ)) → AllByRecursion (λ y. slice_cmp nat_cmp k y ≡ Less) others → AllByRecursion (λ y. slot_key_cmp (slot_key n k) y ≡ Less) (map (slot_key n) others)
    less [] a = tt
    less (y ∷ others) a = (same_slot n k y ∙ a.0, less others a.1)

behind : (n : ℕ) (ks : List (List ℕ)) (ps : List SlotKey) → AllByRecursion (λ p. p.slot.0 < n) ps → AllByRecursion (λ p. AllByRecursion (λ y. slot_key_cmp p y ≡ Less) (map (slot_key n) ks)) ps
behind n ks [] a = tt
behind n ks (p ∷ ps) a = (each ks, behind n ks ps a.1)
  where
    each : (others : List (List ℕ)) → AllByRecursion (λ y. slot_key_cmp p y ≡ Less) (map (slot_key n) others)
    each [] = tt
    each (k ∷ others) = (ap (λ r. ordering_then r (slice_cmp nat_cmp p.key k)) (before p.slot.0 n a.0), each others)

-- ---- which ones

pub none_below : (m : ℕ) → nat_lt m 0 ≡ false
none_below m = grind (arith, nat_tests)

pub one_slot_more : (n m : ℕ) → (nat_lt m n || nat_eq n m) ≡ nat_lt m (n + 1)
one_slot_more n m = grind (arith, nat_tests)

-- those under the slots before one, and those under that one
pub which : (n : ℕ) (test : SlotKey → Bool) (one : List ℕ → Bool) → ((q : List ℕ) → one q ≡ test (slot_key n q)) → (p : SlotKey) → ((nat_lt p.slot.0 n && test p) || (nat_eq n p.slot.0 && one p.key)) ≡ (nat_lt p.slot.0 (n + 1) && test p)
which n test one same p = by (nat_eq n p.slot.0) (nat_lt p.slot.0 n) (test p) (one p.key) (λ e. same p.key ∙ ap (λ m. test (slot_key m p.key)) (eqb-true n p.slot.0 e)) ∙ ap (λ b. b && test p) (one_slot_more n p.slot.0)
  where
    by : (b l t o : Bool) → (b ≡ true → o ≡ t) → ((l && t) || (b && o)) ≡ ((l || b) && t)
    by true true true o h = refl
    by true true false o h = h refl
    by true false t o h = h refl
    by false true true o h = refl
    by false true false o h = refl
    by false false t o h = refl

no_order : IsStrictlySortedBy slot_key_cmp []
unfolding IsStrictlySortedBy
no_order = tt

pub listed_none : (test : SlotKey → Bool) (ps : List SlotKey) → ps ≡ [] → AreSlotKeys 0 test ps
listed_none test ps is = subst (AreSlotKeys 0 test) (sym is) (record { rise = no_order; within = tt; exact = λ p. by p (nat_lt p.slot.0 0) refl })
  where
    by : (p : SlotKey) (b : Bool) → nat_lt p.slot.0 0 ≡ b → false ≡ (b && test p)
    by p true lt = absurd (let bad = ltb-true p.slot.0 0 lt in omega (arith, bad))
    by p false lt = refl

module _ (n : ℕ) (test : SlotKey → Bool) (one : List ℕ → Bool) (same : (q : List ℕ) → one q ≡ test (slot_key n q)) (old new : List SlotKey) (was : AreSlotKeys n test old) (with : IsWithKeys n one old new) where
  more_within : (ps : List SlotKey) → AllByRecursion (λ p. p.slot.0 < n) ps → AllByRecursion (λ p. p.slot.0 < n + 1) ps
  more_within [] a = tt
  more_within (p ∷ ps) a = ((let lt = a.0 in omega (arith, lt)), more_within ps a.1)

  new_within : (ks : List (List ℕ)) → AllByRecursion (λ p. p.slot.0 < n + 1) (map (slot_key n) ks)
  new_within [] = tt
  new_within (k ∷ ks) = (omega arith, new_within ks)

  pub listed_more : AreSlotKeys (n + 1) test new
  listed_more = subst (AreSlotKeys (n + 1) test) (sym with.is) (record {
    rise = sorted_append slot_key_cmp old (map (slot_key n) with.keys) was.rise (under_slot n with.keys with.are.rise) (behind n with.keys old was.within);
    within = all_append slot_key_cmp (λ p. p.slot.0 < n + 1) old (map (slot_key n) with.keys) (more_within old was.within) (new_within with.keys);
    exact = λ p.
        list_any-append (λ x. same_slot_key x p) old (map (slot_key n) with.keys)
        ∙ (λ i. was.exact p i || (among_slot n with.keys p ∙ ap (λ b. nat_eq n p.slot.0 && b) (with.are.exact p.key)) i)
        ∙ which n test one same p;
  })

pub apart : (ps : List SlotKey) → IsStrictlySortedBy slot_key_cmp ps → IsDistinct same_slot_key ps
apart ps h = subst (λ e. IsDistinct e ps) (λ i p q. tied_is p q i) (IsDistinct-from_sorted slot_key_cmp ps h)
