-- Keys that were sorted, each once.
use Rattle.std.proofs.Common.{◌≡◌, ℕ, ◌==◌, length, arith, Bool, true, false, cond, not, ◌&&◌, ◌||◌, List, [], ◌∷◌, ◌++◌, map, refl, sym, ap, ◌∙◌, subst}
use Rattle.std.specs.List.{list_any, filter, dedup, dedup_from, AllByRecursion}
use Rattle.std.specs.List.Sorted.{IsSorted, IsStrictlySortedBy, IsPermutation}
use Rattle.std.specs.declared.cmp.Ordering.TheVariants.{Less}
use Rattle.std.specs.Ordering.{nat_cmp}
use Rattle.std.specs.Cmp.Lexicographic.{slice_cmp, nat_list_cmp_total, texts_ties}
use Rattle.std.specs.Str.{bytes_eq}
use Rattle.std.proofs.lemmas.Bool.{eqb-true}
use Rattle.std.proofs.lemmas.Cmp.{on_total}
use Rattle.std.proofs.lemmas.List.Kept.{IsStrictlySortedBy-dedup, IsStrictlySortedBy-filter}
use Rattle.std.proofs.lemmas.List.Folds.{list_any-append}
use Rattle.std.proofs.lemmas.List.Sorted.{list_any-IsPermutation}
use Rattle.index_text.specs.declared.slot_key.SlotKey.{SlotKey}
use Rattle.index_text.specs.SlotKeys.{slot_key}
use Rattle.index.specs.inner.KeyLists.{AreKeys, IsWithKeys}
use Rattle.index_text.proofs.SlotKeyOrder.{same_bytes}

-- the keys are what text reads of the elements
module _ {K : Type 0} (text : K → List ℕ) where
  abbrev pub same : K → K → Bool
  same a b = bytes_eq (text a) (text b)

  any_map : (p : List ℕ → Bool) (ks : List K) → list_any p (map text ks) ≡ list_any (λ k. p (text k)) ks
  any_map p [] = refl
  any_map p (k ∷ ks) = ap (λ b. p (text k) || b) (any_map p ks)

  kept : (p : List ℕ → Bool) (k : K) (ks : List K) → list_any (λ k. p (text k)) (dedup_from same k ks) ≡ (p (text k) || list_any (λ k. p (text k)) ks)
  kept p k [] = refl
  kept p k (x ∷ xs) = by (kept p k xs) (kept p x xs) (same x k) refl
    where
      by : list_any (λ k. p (text k)) (dedup_from same k xs) ≡ (p (text k) || list_any (λ k. p (text k)) xs) → list_any (λ k. p (text k)) (dedup_from same x xs) ≡ (p (text x) || list_any (λ k. p (text k)) xs)
          → (b : Bool) → same x k ≡ b → list_any (λ k. p (text k)) (cond b (dedup_from same k xs) (k ∷ dedup_from same x xs)) ≡ (p (text k) || (p (text x) || list_any (λ k. p (text k)) xs))
      by h g true e = h ∙ again (p (text k)) (list_any (λ k. p (text k)) xs) ∙ ap (λ y. p (text k) || (p y || list_any (λ k. p (text k)) xs)) (sym (same_bytes (text x) (text k) e))
        where
          again : (a b : Bool) → (a || b) ≡ (a || (a || b))
          again true b = refl
          again false b = refl
      by h g false e = ap (λ b. p (text k) || b) g

  any_dedup : (p : List ℕ → Bool) (ks : List K) → list_any (λ k. p (text k)) (dedup same ks) ≡ list_any (λ k. p (text k)) ks
  any_dedup p [] = refl
  any_dedup p (k ∷ ks) = kept p k ks

  texts_rise : (ks : List K) → IsStrictlySortedBy (λ a b. slice_cmp nat_cmp (text a) (text b)) ks → IsStrictlySortedBy (slice_cmp nat_cmp) (map text ks)
  unfolding IsStrictlySortedBy
  texts_rise [] h = tt
  texts_rise (k ∷ ks) h = (less ks h.0, texts_rise ks h.1)
    where
      less : (others : List K) → AllByRecursion (λ y. slice_cmp nat_cmp (text k) (text y) ≡ Less) others → AllByRecursion (λ y. slice_cmp nat_cmp (text k) y ≡ Less) (map text others)
      less [] a = tt
      less (y ∷ others) a = (a.0, less others a.1)

  pub are_keys : (whole : List (List ℕ)) (all moved left : List K) → map text all ≡ whole → IsPermutation all moved → IsSorted (λ a b. slice_cmp nat_cmp (text a) (text b)) moved → left ≡ dedup same moved
      → AreKeys (λ q. list_any (λ k. bytes_eq k q) whole) (map text left)
  are_keys whole all moved left is permuted sorted once = record {
    rise = texts_rise left (subst (IsStrictlySortedBy (λ a b. slice_cmp nat_cmp (text a) (text b))) (sym once) (IsStrictlySortedBy-dedup (on_total text nat_list_cmp_total) (λ x y. texts_ties (text x) (text y)) moved sorted));
    exact = λ q.
        any_map (λ k. bytes_eq k q) left
        ∙ ap (list_any (λ k. bytes_eq (text k) q)) once
        ∙ any_dedup (λ k. bytes_eq k q) moved
        ∙ sym (list_any-IsPermutation (λ k. bytes_eq (text k) q) all moved permuted)
        ∙ sym (any_map (λ k. bytes_eq k q) all)
        ∙ ap (list_any (λ k. bytes_eq k q)) is;
  }

  pub no_keys : (test : List ℕ → Bool) → ((q : List ℕ) → test q ≡ false) → (ks : List K) → ks ≡ [] → AreKeys test (map text ks)
  unfolding IsStrictlySortedBy
  no_keys test none ks is = subst (λ xs. AreKeys test (map text xs)) (sym is) (record { rise = tt; exact = λ q. sym (none q) })

  pub keys_rise : (ks : List K) → IsStrictlySortedBy (slice_cmp nat_cmp) (map text ks) → IsStrictlySortedBy (λ a b. slice_cmp nat_cmp (text a) (text b)) ks
  unfolding IsStrictlySortedBy
  keys_rise [] h = tt
  keys_rise (k ∷ ks) h = (less ks h.0, keys_rise ks h.1)
    where
      less : (others : List K) → AllByRecursion (λ y. slice_cmp nat_cmp (text k) y ≡ Less) (map text others) → AllByRecursion (λ y. slice_cmp nat_cmp (text k) (text y) ≡ Less) others
      less [] a = tt
      less (y ∷ others) a = (a.0, less others a.1)

  -- ---- those that aren't among others

  abbrev pub missing : List K → List K → List K
  missing others ks = filter (λ k. not (list_any (λ o. bytes_eq (text o) (text k)) others)) ks

  among_filter : (t : List ℕ → Bool) (q : List ℕ) (ks : List K) → list_any (λ k. bytes_eq (text k) q) (filter (λ k. t (text k)) ks) ≡ (list_any (λ k. bytes_eq (text k) q) ks && t q)
  among_filter t q [] = refl
  among_filter t q (k ∷ ks) = by (among_filter t q ks) (t (text k)) refl
    where
      last : (a s : Bool) → bytes_eq (text k) q ≡ s → t (text k) ≡ true → (s || (a && t q)) ≡ ((s || a) && t q)
      last a true is passes = sym (ap t (sym (same_bytes (text k) q is)) ∙ passes)
      last a false is passes = refl

      none : (a s : Bool) → bytes_eq (text k) q ≡ s → t (text k) ≡ false → (a && t q) ≡ ((s || a) && t q)
      none true true is gone = refl
      none false true is gone = sym (ap t (sym (same_bytes (text k) q is)) ∙ gone)
      none a false is gone = refl

      by : list_any (λ x. bytes_eq (text x) q) (filter (λ x. t (text x)) ks) ≡ (list_any (λ x. bytes_eq (text x) q) ks && t q) → (b : Bool) → t (text k) ≡ b
          → list_any (λ x. bytes_eq (text x) q) (cond b (k ∷ filter (λ x. t (text x)) ks) (filter (λ x. t (text x)) ks)) ≡ ((bytes_eq (text k) q || list_any (λ x. bytes_eq (text x) q) ks) && t q)
      by h true passes = ap (λ b. bytes_eq (text k) q || b) h ∙ last (list_any (λ x. bytes_eq (text x) q) ks) (bytes_eq (text k) q) refl passes
      by h false gone = h ∙ none (list_any (λ x. bytes_eq (text x) q) ks) (bytes_eq (text k) q) refl gone

  map_texts : (n : ℕ) (ks : List K) → map (λ k. slot_key n (text k)) ks ≡ map (slot_key n) (map text ks)
  map_texts n [] = refl
  map_texts n (k ∷ ks) = ap (λ ps. slot_key n (text k) ∷ ps) (map_texts n ks)

  only : (n : ℕ) (test other : List ℕ → Bool) (ks others : List K) (old new : List SlotKey) → AreKeys test (map text ks) → AreKeys other (map text others) → new ≡ old ++ map (λ k. slot_key n (text k)) (missing others ks)
      → IsWithKeys n (λ q. test q && not (other q)) old new
  only n test other ks others old new are are_others is = record {
    keys = map text (missing others ks);
    are = record {
      rise = texts_rise (missing others ks) (IsStrictlySortedBy-filter (λ a b. slice_cmp nat_cmp (text a) (text b)) (λ k. not (list_any (λ o. bytes_eq (text o) (text k)) others)) ks (keys_rise ks are.rise));
      exact = λ q.
          any_map (λ k. bytes_eq k q) (missing others ks)
          ∙ among_filter (λ k. not (list_any (λ o. bytes_eq (text o) k) others)) q ks
          ∙ ap (λ b. b && not (list_any (λ o. bytes_eq (text o) q) others)) (sym (any_map (λ k. bytes_eq k q) ks) ∙ are.exact q)
          ∙ ap (λ b. test q && not b) (sym (any_map (λ k. bytes_eq k q) others) ∙ are_others.exact q);
    };
    is = is ∙ ap (λ ps. old ++ ps) (map_texts n (missing others ks));
  }

  -- the same of lists that were lent
  pub only_lent : (n : ℕ) (test other : List ℕ → Bool) (ks others ks' others' : List K) (old new : List SlotKey) → AreKeys test (map text ks) → AreKeys other (map text others) → ks' ≡ ks → others' ≡ others
      → new ≡ old ++ map (λ k. slot_key n (text k)) (missing others' ks') → IsWithKeys n (λ q. test q && not (other q)) old new
  only_lent n test other ks others ks' others' old new are are_others is_ks is_others is =
      only n test other ks others old new are are_others (is ∙ (λ i. old ++ map (λ k. slot_key n (text k)) (missing (is_others i) (is_ks i))))

  pub rise_lent : (test : List ℕ → Bool) (ks ks' : List K) → AreKeys test (map text ks) → ks' ≡ ks → IsStrictlySortedBy (λ a b. slice_cmp nat_cmp (text a) (text b)) ks'
  rise_lent test ks ks' are is = subst (IsStrictlySortedBy (λ a b. slice_cmp nat_cmp (text a) (text b))) (sym is) (keys_rise ks are.rise)

  -- ---- gathered one by one

  pub any_texts : (q : List ℕ) (ks : List K) → list_any (λ k. bytes_eq k q) (map text ks) ≡ list_any (λ k. bytes_eq (text k) q) ks
  any_texts q ks = any_map (λ k. bytes_eq k q) ks

  pub put_last : (q : List ℕ) (old mid new : List K) (x : K) → list_any (λ k. bytes_eq (text k) q) mid ≡ list_any (λ k. bytes_eq (text k) q) old → new ≡ mid ++ x ∷ [] → list_any (λ k. bytes_eq (text k) q) new ≡ (list_any (λ k. bytes_eq (text k) q) old || bytes_eq (text x) q)
  put_last q old mid new x same is =
      ap (list_any (λ k. bytes_eq (text k) q)) is
      ∙ list_any-append (λ k. bytes_eq (text k) q) mid (x ∷ [])
      ∙ (λ i. same i || or_false (bytes_eq (text x) q) i)
    where
      or_false : (b : Bool) → (b || false) ≡ b
      or_false true = refl
      or_false false = refl

  -- what was gathered, and what is still to come
  abbrev pub Gathers : List K → List (List ℕ) → List (List ℕ) → Type 0
  Gathers found rest whole = (q : List ℕ) → (list_any (λ k. bytes_eq (text k) q) found || list_any (λ k. bytes_eq k q) rest) ≡ list_any (λ k. bytes_eq k q) whole

  pub gathers_more : (old new : List K) (key : List ℕ) (rest left whole : List (List ℕ)) → ((q : List ℕ) → list_any (λ k. bytes_eq (text k) q) new ≡ (list_any (λ k. bytes_eq (text k) q) old || bytes_eq key q)) → rest ≡ key ∷ left → Gathers old rest whole → Gathers new left whole
  gathers_more old new key rest left whole put is h q =
      ap (λ b. b || list_any (λ k. bytes_eq k q) left) (put q)
      ∙ assoc (list_any (λ k. bytes_eq (text k) q) old) (bytes_eq key q) (list_any (λ k. bytes_eq k q) left)
      ∙ ap (λ (ks : List (List ℕ)). list_any (λ k. bytes_eq (text k) q) old || list_any (λ k. bytes_eq k q) ks) (sym is)
      ∙ h q
    where
      assoc : (a b c : Bool) → ((a || b) || c) ≡ (a || (b || c))
      assoc true b c = refl
      assoc false b c = refl

  pub gathers_all : (found : List K) (left whole : List (List ℕ)) → left ≡ [] → Gathers found left whole → (q : List ℕ) → list_any (λ k. bytes_eq (text k) q) found ≡ list_any (λ k. bytes_eq k q) whole
  gathers_all found left whole none h q = or_false (list_any (λ k. bytes_eq (text k) q) found) ∙ ap (λ (ks : List (List ℕ)). list_any (λ k. bytes_eq (text k) q) found || list_any (λ k. bytes_eq k q) ks) (sym none) ∙ h q
    where
      or_false : (b : Bool) → b ≡ (b || false)
      or_false true = refl
      or_false false = refl

  abbrev pub GathersAmong : List K → List K → List (List ℕ) → List (List ℕ) → Type 0
  GathersAmong others found rest whole =
      (q : List ℕ) → (list_any (λ k. bytes_eq (text k) q) found || (list_any (λ k. bytes_eq k q) rest && list_any (λ k. bytes_eq (text k) q) others)) ≡ (list_any (λ k. bytes_eq k q) whole && list_any (λ k. bytes_eq (text k) q) others)

  pub among_more : (others old new : List K) (key : List ℕ) (rest left whole : List (List ℕ))
      → ((q : List ℕ) → list_any (λ k. bytes_eq (text k) q) new ≡ (list_any (λ k. bytes_eq (text k) q) old || (list_any (λ k. bytes_eq (text k) key) others && bytes_eq key q)))
      → rest ≡ key ∷ left → GathersAmong others old rest whole → GathersAmong others new left whole
  among_more others old new key rest left whole put is h q =
      ap (λ b. b || (list_any (λ k. bytes_eq k q) left && list_any (λ k. bytes_eq (text k) q) others)) (put q)
      ∙ by (list_any (λ k. bytes_eq (text k) q) old) (bytes_eq key q) (list_any (λ k. bytes_eq k q) left) (list_any (λ k. bytes_eq (text k) key) others) (list_any (λ k. bytes_eq (text k) q) others) (λ e. ap (λ (y : List ℕ). list_any (λ k. bytes_eq (text k) y) others) (same_bytes key q e))
      ∙ ap (λ (ks : List (List ℕ)). list_any (λ k. bytes_eq (text k) q) old || (list_any (λ k. bytes_eq k q) ks && list_any (λ k. bytes_eq (text k) q) others)) (sym is)
      ∙ h q
    where
      by : (a b c f o : Bool) → (b ≡ true → f ≡ o) → ((a || (f && b)) || (c && o)) ≡ (a || ((b || c) && o))
      by true b c f o e = refl
      by false true c true true e = refl
      by false true true true false e = e refl
      by false true false true false e = e refl
      by false true c false true e = absurd (let bad : false ≡ true = e refl in cc)
      by false true true false false e = refl
      by false true false false false e = refl
      by false false c true o e = refl
      by false false c false o e = refl

  pub among_all : (others found : List K) (left whole : List (List ℕ)) → left ≡ [] → GathersAmong others found left whole → (q : List ℕ) → list_any (λ k. bytes_eq (text k) q) found ≡ (list_any (λ k. bytes_eq k q) whole && list_any (λ k. bytes_eq (text k) q) others)
  among_all others found left whole none h q = or_false (list_any (λ k. bytes_eq (text k) q) found) ∙ ap (λ (ks : List (List ℕ)). list_any (λ k. bytes_eq (text k) q) found || (list_any (λ k. bytes_eq k q) ks && list_any (λ k. bytes_eq (text k) q) others)) (sym none) ∙ h q
    where
      or_false : (b : Bool) → b ≡ (b || false)
      or_false true = refl
      or_false false = refl

  -- no key is among no others
  pub among_none : (keys : List (List ℕ)) (others : List K) (r : Bool) → r ≡ (length others == 0) → r ≡ true → (q : List ℕ) → (list_any (λ k. bytes_eq k q) keys && list_any (λ k. bytes_eq (text k) q) others) ≡ false
  among_none keys [] r is e q = by (list_any (λ k. bytes_eq k q) keys)
    where
      by : (b : Bool) → (b && false) ≡ false
      by true = refl
      by false = refl
  among_none keys (o ∷ os) r is e q = absurd (let some = eqb-true (length (o ∷ os)) 0 (sym is ∙ e) in omega (arith, some))

  -- those of a list that are among others, which pass a test
  pub among_lent : (f test : List ℕ → Bool) (ks : List (List ℕ)) (others others' : List K) → others' ≡ others → AreKeys test (map text others) → AreKeys (λ q. f q && list_any (λ k. bytes_eq (text k) q) others') ks → AreKeys (λ q. f q && test q) ks
  among_lent f test ks others others' is are h = record {
    rise = h.rise;
    exact = λ q. h.exact q ∙ ap (λ b. f q && b) (ap (list_any (λ k. bytes_eq (text k) q)) is ∙ sym (any_map (λ k. bytes_eq k q) others) ∙ are.exact q);
  }

pub keys_that : (test other : List ℕ → Bool) (ks : List (List ℕ)) → ((q : List ℕ) → test q ≡ other q) → AreKeys test ks → AreKeys other ks
keys_that test other ks same h = record { rise = h.rise; exact = λ q. h.exact q ∙ same q }

pub with_keys_that : (n : ℕ) (test other : List ℕ → Bool) (old new : List SlotKey) → ((q : List ℕ) → test q ≡ other q) → IsWithKeys n test old new → IsWithKeys n other old new
with_keys_that n test other old new same h = record { keys = h.keys; are = keys_that test other h.keys same h.are; is = h.is }
