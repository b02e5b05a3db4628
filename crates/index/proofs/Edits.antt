-- The members that come and go are counted, step by step.
use Rattle.std.proofs.Common.{◌≡◌, ℕ, ◌+◌, ◌≤◌, Bool, true, false, cond, not, ◌&&◌, ◌||◌, List, [], ◌∷◌, ◌++◌, length, map, filter, Some, unwrap_or, nat_eq, refl, sym, ap, subst, ◌∙◌, arith}
use Rattle.std.proofs.lemmas.Bool.{eqb-true, eq-eqb, or_left, or_right, and_parts, both_ways, false_from_ne_true}
use Rattle.std.proofs.lemmas.List.{length-append}
use Rattle.std.proofs.lemmas.List.Folds.{list_any-append}
use Rattle.std.specs.List.{list_any, AllByRecursion, IsDistinct}
use Rattle.std.specs.FinSet as set
use Rattle.std.specs.Ordering.{nat_cmp, eq_by_cmp}
use Rattle.std.specs.Cmp.{nat_cmp_total, unsigned_tied}
use Rattle.std.specs.Cmp.Lexicographic.{slice_cmp, nat_list_cmp_total, bytes_decides}
use Rattle.std.specs.List.Sorted.{IsStrictlySortedBy}
use Rattle.std.specs.Map.{keys_of, lookup}
use Rattle.std.specs.Str.{bytes_eq}
use Rattle.std.proofs.lemmas.Cmp.{eq_by_cmp_equiv}
use Rattle.std.proofs.lemmas.Map.Keys.{IsDistinct-from_sorted}
use Rattle.std.proofs.lemmas.Map.Text.{is_eq-slice_cmp}
use Rattle.index_text.specs.declared.slot_key.SlotKey.{SlotKey}
use Rattle.index_text.specs.KeySets.{Members, Row, members_at}
use Rattle.index_text.specs.SlotKeys.{SlotKeys, slot_key, same_slot_key, slot_key_cmp}
use Rattle.index.specs.Edits.{same_member, differ, has_changed, CountsEach}
use Rattle.index_text.proofs.SlotKeyOrder.{slot_key_total, slot_key_exact, slot_key_is, itself, tied_is, turned}

pub differ_itself : (b : Bool) → differ b b ≡ false
differ_itself true = refl
differ_itself false = refl

number_itself : (n : ℕ) → nat_eq n n ≡ true
number_itself n = eq-eqb n n refl

pub put_has : (s : Members) (n m : ℕ) → set.contains (set.insert s n) m ≡ (nat_eq m n || set.contains s m)
put_has s n m = set.contains-insert nat_cmp_total s n m ∙ ap (λ b. b || set.contains s m) (unsigned_tied m n)

pub left_has : (s : Members) (n m : ℕ) → set.contains (set.remove s n) m ≡ (not (nat_eq m n) && set.contains s m)
left_has s n m = set.contains-remove nat_cmp_total s n m ∙ ap (λ b. not b && set.contains s m) (unsigned_tied m n)

pub bytes_own : (key : List ℕ) → bytes_eq key key ≡ true
bytes_own key = (bytes_decides key key).1 refl

pub bytes_are : (a b : List ℕ) → bytes_eq a b ≡ true → a ≡ b
bytes_are a b = (bytes_decides a b).0

-- ---- lists whose elements are told apart

module _ {P : Type 0} (same : P → P → Bool) (own : (x : P) → same x x ≡ true) where
  abbrev among : List P → P → Bool
  among xs y = list_any (λ x. same x y) xs

  all_other : (x : P) (ys all : List P) → ((y : P) → among ys y ≡ true → among all y ≡ true) → ((y : P) → same x y ≡ true → among all y ≡ true → ⊥) → AllByRecursion (λ y. same x y ≡ false) ys
  all_other x [] all more none = tt
  all_other x (y ∷ ys) all more none = (
    false_from_ne_true (same x y) (λ e. none y e (more y (or_left (same y y) (among ys y) (own y)))),
    all_other x ys all (λ z h. more z (or_right (same y z) (among ys z) h)) none,
  )

  all_both : (R : P → Type 0) (xs ys : List P) → AllByRecursion R xs → AllByRecursion R ys → AllByRecursion R (xs ++ ys)
  all_both R [] ys a b = b
  all_both R (x ∷ xs) ys a b = (a.0, all_both R xs ys a.1 b)

  pub apart_append : (xs ys : List P) → IsDistinct same xs → IsDistinct same ys → ((y : P) → among xs y ≡ true → among ys y ≡ true → ⊥) → IsDistinct same (xs ++ ys)
  unfolding IsDistinct
  apart_append [] ys dx dy none = dy
  apart_append (x ∷ xs) ys dx dy none = (
    all_both (λ y. same x y ≡ false) xs ys dx.0 (all_other x ys ys (λ y h. h) (λ y e h. none y (or_left (same x y) (among xs y) e) h)),
    apart_append xs ys dx.1 dy (λ y h. none y (or_right (same x y) (among xs y) h)),
  )

-- ---- one step, and one after the other

-- each member of a key still is one
abbrev pub Grows : {K : Type 0} → (K → Members) → (K → Members) → Type 0
Grows {K} old new = (k : K) (n : ℕ) → set.contains (old k) n ≡ true → set.contains (new k) n ≡ true

pub grows_not : {K : Type 0} (old new : K → Members) → ((k : K) → new k ≡ old k) → Grows old new
grows_not old new same k n h = ap (λ (s : Members). set.contains s n) (same k) ∙ h

pub grows_on : {K : Type 0} (old mid new : K → Members) → Grows old mid → Grows mid new → Grows old new
grows_on old mid new one two k n h = two k n (one k n h)

pub grows_by : {K : Type 0} (old new : K → Members) (test : K → Bool) (m : ℕ) → ((q : K) → new q ≡ cond (test q) (set.insert (old q) m) (old q)) → Grows old new
grows_by old new test m puts k n h = ap (λ (s : Members). set.contains s n) (puts k) ∙ by (test k)
  where
    by : (b : Bool) → set.contains (cond b (set.insert (old k) m) (old k)) n ≡ true
    by true = put_has (old k) m n ∙ or_right (nat_eq n m) (set.contains (old k) n) h
    by false = h

-- what goes was there
pub was_there : {K : Type 0} (old new : K → Members) (test : K → Bool) (m : ℕ) → ((q : K) → new q ≡ cond (test q) (set.remove (old q) m) (old q)) → Grows new old
was_there old new test m takes k n h = by (test k) (sym (ap (λ (s : Members). set.contains s n) (takes k)) ∙ h)
  where
    by : (b : Bool) → set.contains (cond b (set.remove (old k) m) (old k)) n ≡ true → set.contains (old k) n ≡ true
    by true t = (and_parts (not (nat_eq n m)) (set.contains (old k) n) (sym (left_has (old k) m n) ∙ t)).1
    by false t = t

module _ {K : Type 0} (same : K → K → Bool) (own : (k : K) → same k k ≡ true) (is : (a b : K) → same a b ≡ true → a ≡ b) where
  member_itself : (a : K × ℕ) → same_member same a a ≡ true
  member_itself a = (λ i. own a.0 i && number_itself a.1 i)

  -- nothing came or went
  pub none_counted : (old new : K → Members) (e e' : ℕ) → ((k : K) → new k ≡ old k) → e' ≡ e → CountsEach same old new e e'
  unfolding IsDistinct
  none_counted old new e e' same_members rise = record {
    changed = [];
    apart = tt;
    exact = λ a. sym (ap (λ (s : Members). differ (set.contains (old a.0) a.1) (set.contains s a.1)) (same_members a.0) ∙ differ_itself (set.contains (old a.0) a.1));
    rise = omega (arith, rise);
  }

  -- where one member may have come or gone, and an answer tells
  one_counted : (old new : K → Members) (e e' : ℕ) (key : K) (n : ℕ) (told : Bool) → ((a : K × ℕ) → (told && same_member same (key, n) a) ≡ has_changed old new a) → e' ≡ e + cond told 1 0 → CountsEach same old new e e'
  unfolding IsDistinct
  one_counted old new e e' key n true exact rise = record {
    changed = (key, n) ∷ [];
    apart = (tt, tt);
    exact = λ a. or_false (same_member same (key, n) a) ∙ exact a;
    rise = rise;
  }
    where
      or_false : (b : Bool) → (b || false) ≡ b
      or_false true = refl
      or_false false = refl
  one_counted old new e e' key n false exact rise = record { changed = []; apart = tt; exact = exact; rise = rise }

  -- what an insert of a number under a key makes of a member
  module _ (old new : K → Members) (key : K) (n : ℕ) where
    same_place : (a : K × ℕ) → same key a.0 ≡ true → nat_eq n a.1 ≡ true → set.contains (old a.0) a.1 ≡ set.contains (old key) n
    same_place a k m = λ i. set.contains (old (sym (is key a.0 k) i)) (sym (eqb-true n a.1 m) i)

    turned_number : (m : ℕ) (b : Bool) → nat_eq n m ≡ b → nat_eq m n ≡ b
    turned_number m true e = ap (λ x. nat_eq x n) (sym (eqb-true n m e)) ∙ number_itself n
    turned_number m false e = false_from_ne_true (nat_eq m n) (λ h. both_ways (nat_eq n m) e (ap (λ x. nat_eq n x) (eqb-true m n h) ∙ number_itself n))

    module _ (puts : (q : K) → new q ≡ cond (same key q) (set.insert (old q) n) (old q)) where
      insert_tells : (told : Bool) → told ≡ not (set.contains (old key) n) → (a : K × ℕ) → (told && same_member same (key, n) a) ≡ has_changed old new a
      insert_tells told is_new a = by (same key a.0) (nat_eq n a.1) refl refl ∙ ap (λ (s : Members). differ (set.contains (old a.0) a.1) (set.contains s a.1)) (sym (puts a.0))
        where
          was : Bool
          was = set.contains (old a.0) a.1

          and_false : (b : Bool) → (b && false) ≡ false
          and_false true = refl
          and_false false = refl

          by : (k m : Bool) → same key a.0 ≡ k → nat_eq n a.1 ≡ m → (told && (k && m)) ≡ differ was (set.contains (cond k (set.insert (old a.0) n) (old a.0)) a.1)
          by true true k m =
              and_true told ∙ is_new ∙ ap not (sym (same_place a k m)) ∙ flips was
              ∙ ap (differ was) (sym (put_has (old a.0) n a.1 ∙ ap (λ b. b || was) (turned_number a.1 true m)))
            where
              and_true : (b : Bool) → (b && true) ≡ b
              and_true true = refl
              and_true false = refl

              flips : (b : Bool) → not b ≡ differ b true
              flips true = refl
              flips false = refl
          by true false k m = and_false told ∙ sym (differ_itself was) ∙ ap (differ was) (sym (put_has (old a.0) n a.1 ∙ ap (λ b. b || was) (turned_number a.1 false m)))
          by false m k m' = and_false told ∙ sym (differ_itself was)

      pub inserted : (e e' : ℕ) (told : Bool) → told ≡ not (set.contains (old key) n) → e' ≡ e + cond told 1 0 → CountsEach same old new e e'
      inserted e e' told is_new rise = one_counted old new e e' key n told (insert_tells told is_new) rise

    module _ (takes : (q : K) → new q ≡ cond (same key q) (set.remove (old q) n) (old q)) where
      remove_tells : (told : Bool) → told ≡ set.contains (old key) n → (a : K × ℕ) → (told && same_member same (key, n) a) ≡ has_changed old new a
      remove_tells told was_there a = by (same key a.0) (nat_eq n a.1) refl refl ∙ ap (λ (s : Members). differ (set.contains (old a.0) a.1) (set.contains s a.1)) (sym (takes a.0))
        where
          was : Bool
          was = set.contains (old a.0) a.1

          and_false : (b : Bool) → (b && false) ≡ false
          and_false true = refl
          and_false false = refl

          by : (k m : Bool) → same key a.0 ≡ k → nat_eq n a.1 ≡ m → (told && (k && m)) ≡ differ was (set.contains (cond k (set.remove (old a.0) n) (old a.0)) a.1)
          by true true k m =
              and_true told ∙ was_there ∙ sym (same_place a k m) ∙ flips was
              ∙ ap (differ was) (sym (left_has (old a.0) n a.1 ∙ ap (λ b. not b && was) (turned_number a.1 true m)))
            where
              and_true : (b : Bool) → (b && true) ≡ b
              and_true true = refl
              and_true false = refl

              flips : (b : Bool) → b ≡ differ b false
              flips true = refl
              flips false = refl
          by true false k m = and_false told ∙ sym (differ_itself was) ∙ ap (differ was) (sym (left_has (old a.0) n a.1 ∙ ap (λ b. not b && was) (turned_number a.1 false m)))
          by false m k m' = and_false told ∙ sym (differ_itself was)

      pub removed : (e e' : ℕ) (told : Bool) → told ≡ set.contains (old key) n → e' ≡ e + cond told 1 0 → CountsEach same old new e e'
      removed e e' told was_there rise = one_counted old new e e' key n told (remove_tells told was_there) rise

  -- two steps, where no member comes and goes again
  module _ (old mid new : K → Members) (e e' e'' : ℕ) (first : CountsEach same old mid e e') (next : CountsEach same mid new e' e'') where
    both_counted : ((a : K × ℕ) → has_changed old mid a ≡ true → has_changed mid new a ≡ true → ⊥) → CountsEach same old new e e''
    both_counted none = record {
      changed = first.changed ++ next.changed;
      apart = apart_append (same_member same) member_itself first.changed next.changed first.apart next.apart (λ a h k. none a (sym (first.exact a) ∙ h) (sym (next.exact a) ∙ k));
      exact = λ a.
          list_any-append (λ x. same_member same x a) first.changed next.changed
          ∙ (λ i. first.exact a i || next.exact a i)
          ∙ by (set.contains (old a.0) a.1) (set.contains (mid a.0) a.1) (set.contains (new a.0) a.1) (none a);
      rise = let long = length-append first.changed next.changed in let one = first.rise in let two = next.rise in omega (arith, long, one, two);
    }
      where
        by : (a b c : Bool) → (differ a b ≡ true → differ b c ≡ true → ⊥) → (differ a b || differ b c) ≡ differ a c
        by true true c not_both = refl
        by true false true not_both = absurd (not_both refl refl)
        by true false false not_both = refl
        by false true true not_both = refl
        by false true false not_both = absurd (not_both refl refl)
        by false false c not_both = refl

    -- members only come
    pub came_counted : Grows old mid → Grows mid new → CountsEach same old new e e''
    came_counted one two = both_counted (λ a. by (set.contains (old a.0) a.1) (set.contains (mid a.0) a.1) (set.contains (new a.0) a.1) (one a.0 a.1) (two a.0 a.1))
      where
        by : (a b c : Bool) → (a ≡ true → b ≡ true) → (b ≡ true → c ≡ true) → differ a b ≡ true → differ b c ≡ true → ⊥
        by true true true f g h k = cc
        by true true false f g h k = cc
        by true false c f g h k = let e = f refl in cc
        by false true true f g h k = cc
        by false true false f g h k = let e = g refl in cc
        by false false c f g h k = cc

    -- members only go
    pub went_counted : Grows mid old → Grows new mid → CountsEach same old new e e''
    went_counted one two = both_counted (λ a. by (set.contains (old a.0) a.1) (set.contains (mid a.0) a.1) (set.contains (new a.0) a.1) (one a.0 a.1) (two a.0 a.1))
      where
        by : (a b c : Bool) → (b ≡ true → a ≡ true) → (c ≡ true → b ≡ true) → differ a b ≡ true → differ b c ≡ true → ⊥
        by true true c f g h k = cc
        by true false true f g h k = let e = g refl in cc
        by true false false f g h k = cc
        by false true c f g h k = let e = f refl in cc
        by false false true f g h k = let e = g refl in cc
        by false false false f g h k = cc

-- ---- the keys of one slot

abbrev in_slot : ℕ → List ℕ × ℕ → SlotKey × ℕ
in_slot place a = (slot_key place a.0, a.1)

module _ (place : ℕ) where
  same_in_slot : (a : List ℕ × ℕ) (p : SlotKey × ℕ) → same_member same_slot_key (in_slot place a) p ≡ (nat_eq place p.0.slot.0 && same_member bytes_eq a (p.0.key, p.1))
  same_in_slot a p = by (nat_eq place p.0.slot.0)
    where
      by : (b : Bool) → ((b && bytes_eq a.0 p.0.key) && nat_eq a.1 p.1) ≡ (b && (bytes_eq a.0 p.0.key && nat_eq a.1 p.1))
      by true = refl
      by false = refl

  any_in_slot : (cs : List (List ℕ × ℕ)) (p : SlotKey × ℕ) → list_any (λ x. same_member same_slot_key x p) (map (in_slot place) cs) ≡ (nat_eq place p.0.slot.0 && list_any (λ x. same_member bytes_eq x (p.0.key, p.1)) cs)
  any_in_slot [] p = by (nat_eq place p.0.slot.0)
    where
      by : (b : Bool) → false ≡ (b && false)
      by true = refl
      by false = refl
  any_in_slot (c ∷ cs) p = (λ i. same_in_slot c p i || any_in_slot cs p i) ∙ by (nat_eq place p.0.slot.0)
    where
      by : (b : Bool) → ((b && same_member bytes_eq c (p.0.key, p.1)) || (b && list_any (λ x. same_member bytes_eq x (p.0.key, p.1)) cs)) ≡ (b && (same_member bytes_eq c (p.0.key, p.1) || list_any (λ x. same_member bytes_eq x (p.0.key, p.1)) cs))
      by true = refl
      by false = refl

  apart_in_slot : (cs : List (List ℕ × ℕ)) → IsDistinct (same_member bytes_eq) cs → IsDistinct (same_member same_slot_key) (map (in_slot place) cs)
  unfolding IsDistinct
  apart_in_slot [] d = tt
  apart_in_slot (c ∷ cs) d = (others cs d.0, apart_in_slot cs d.1)
    where
      others : (xs : List (List ℕ × ℕ)) → AllByRecursion (λ y. same_member bytes_eq c y ≡ false) xs → AllByRecursion (λ y. same_member same_slot_key (in_slot place c) y ≡ false) (map (in_slot place) xs)
      others [] all = tt
      others (x ∷ xs) all = (same_in_slot c (in_slot place x) ∙ ap (λ b. nat_eq place place && b) all.0 ∙ none (nat_eq place place), others xs all.1)
        where
          none : (b : Bool) → (b && false) ≡ false
          none true = refl
          none false = refl

  -- what came and went under one slot alone
  pub slot_counted : (old new : SlotKey → Members) (was now : List ℕ → Members) (e e' : ℕ)
      → ((p : SlotKey) → nat_eq place p.slot.0 ≡ false → new p ≡ old p) → ((p : SlotKey) → nat_eq place p.slot.0 ≡ true → old p ≡ was p.key) → ((p : SlotKey) → nat_eq place p.slot.0 ≡ true → new p ≡ now p.key)
      → CountsEach bytes_eq was now e e' → CountsEach same_slot_key old new e e'
  slot_counted old new was now e e' others before after counts = record {
    changed = map (in_slot place) counts.changed;
    apart = apart_in_slot counts.changed counts.apart;
    exact = λ p. any_in_slot counts.changed p ∙ ap (λ b. nat_eq place p.0.slot.0 && b) (counts.exact (p.0.key, p.1)) ∙ by p (nat_eq place p.0.slot.0) refl;
    rise = counts.rise ∙ ap (λ n. e + n) (sym (as_long counts.changed));
  }
    where
      by : (p : SlotKey × ℕ) (b : Bool) → nat_eq place p.0.slot.0 ≡ b → (b && has_changed was now (p.0.key, p.1)) ≡ has_changed old new p
      by p true e = λ i. differ (set.contains (sym (before p.0 e) i) p.1) (set.contains (sym (after p.0 e) i) p.1)
      by p false e = sym (ap (λ (s : Members). differ (set.contains (old p.0) p.1) (set.contains s p.1)) (others p.0 e) ∙ differ_itself (set.contains (old p.0) p.1))

      as_long : (cs : List (List ℕ × ℕ)) → length (map (in_slot place) cs) ≡ length cs
      as_long [] = refl
      as_long (c ∷ cs) = let rest = as_long cs in omega (arith, rest)

-- ---- how many they are at most

-- as many as these keys, where each is a member of one of these, and the same number
one_out : (ks : SlotKeys) (p q : SlotKey) → set.contains ks q ≡ true → same_slot_key p q ≡ false → set.contains (set.remove ks p) q ≡ true
one_out ks p q has other =
    set.contains-remove slot_key_total ks p q
    ∙ (λ i. not ((tied_is q p ∙ turned q p ∙ other) i) && has i)

put_back : (ks : SlotKeys) (p : SlotKey) → set.contains ks p ≡ true → set.len ks ≡ set.len (set.remove ks p) + 1
put_back ks p has =
    ap set.len (set.same_set slot_key_total slot_key_exact ks (set.insert (set.remove ks p) p) (λ q. sym (set.contains-insert slot_key_total (set.remove ks p) p q ∙ ap (λ b. eq_by_cmp slot_key_cmp q p || b) (set.contains-remove slot_key_total ks p q) ∙ by q (eq_by_cmp slot_key_cmp q p) refl)))
    ∙ set.len-insert slot_key_total (set.remove ks p) p
    ∙ ap (λ b. cond b (set.len (set.remove ks p)) (set.len (set.remove ks p) + 1)) (set.contains-remove slot_key_total ks p p ∙ ap (λ b. not b && set.contains ks p) (tied_is p p ∙ itself p))
  where
    by : (q : SlotKey) (b : Bool) → eq_by_cmp slot_key_cmp q p ≡ b → (b || (not b && set.contains ks q)) ≡ set.contains ks q
    by q true e = sym (ap (set.contains ks) (slot_key_is q p (sym (tied_is q p) ∙ e)) ∙ has)
    by q false e = refl

few_members : (cs : List (SlotKey × ℕ)) (n : ℕ) (ks : SlotKeys) → IsDistinct (same_member same_slot_key) cs → AllByRecursion (λ c. (set.contains ks c.0 ≡ true) × (c.1 ≡ n)) cs → length cs ≤ set.len ks
unfolding IsDistinct
few_members [] n ks apart all = omega arith
few_members (c ∷ cs) n ks apart all =
    let rest = few_members cs n (set.remove ks c.0) apart.1 (without cs apart.0 all.1) in
    let fewer : set.len (set.remove ks c.0) + 1 ≤ set.len ks = one_fewer in
    omega (arith, rest, fewer)
  where
    without : (xs : List (SlotKey × ℕ)) → AllByRecursion (λ y. same_member same_slot_key c y ≡ false) xs → AllByRecursion (λ x. (set.contains ks x.0 ≡ true) × (x.1 ≡ n)) xs → AllByRecursion (λ x. (set.contains (set.remove ks c.0) x.0 ≡ true) × (x.1 ≡ n)) xs
    without [] others has = tt
    without (x ∷ xs) others has = ((one_out ks c.0 x.0 has.0.0 (apart_keys x has.0.1 others.0), has.0.1), without xs others.1 has.1)
      where
        apart_keys : (x : SlotKey × ℕ) → x.1 ≡ n → same_member same_slot_key c x ≡ false → same_slot_key c.0 x.0 ≡ false
        apart_keys x same other = and_true (same_slot_key c.0 x.0) ∙ ap (λ b. same_slot_key c.0 x.0 && b) (sym (eq-eqb c.1 x.1 (all.0.1 ∙ sym same))) ∙ other
          where
            and_true : (b : Bool) → b ≡ (b && true)
            and_true true = refl
            and_true false = refl

    one_fewer : set.len (set.remove ks c.0) + 1 ≤ set.len ks
    one_fewer = let e = put_back ks c.0 all.0.0 in omega (arith, e)

-- members of these keys alone came or went, and of one number
pub few_counted : (old new : SlotKey → Members) (e e' n : ℕ) (ks : SlotKeys) → CountsEach same_slot_key old new e e' → ((a : SlotKey × ℕ) → has_changed old new a ≡ true → (set.contains ks a.0 ≡ true) × (a.1 ≡ n)) → e' ≤ e + set.len ks
few_counted old new e e' n ks counts only =
    let few = few_members counts.changed n ks counts.apart (each counts.changed (λ a h. h)) in
    let rise = counts.rise in
    omega (arith, few, rise)
  where
    each : (cs : List (SlotKey × ℕ)) → ((a : SlotKey × ℕ) → list_any (λ x. same_member same_slot_key x a) cs ≡ true → list_any (λ x. same_member same_slot_key x a) counts.changed ≡ true) → AllByRecursion (λ c. (set.contains ks c.0 ≡ true) × (c.1 ≡ n)) cs
    each [] more = tt
    each (c ∷ cs) more = (
      only c (sym (counts.exact c) ∙ more c (or_left (same_member same_slot_key c c) (list_any (λ x. same_member same_slot_key x c) cs) (λ i. itself c.0 i && number_itself c.1 i))),
      each cs (λ a h. more a (or_right (same_member same_slot_key c a) (list_any (λ x. same_member same_slot_key x a) cs) h)),
    )

-- ---- a number goes from each key of a slot

-- rows that have it
abbrev pub has_number : ℕ → Row → Bool
has_number n row = set.contains row.1 n

abbrev with_number : ℕ → Row → List ℕ × ℕ
with_number n row = (row.0, n)

abbrev holders : ℕ → List Row → List (List ℕ × ℕ)
holders n rows = map (with_number n) (filter (has_number n) rows)

any_holder : (n : ℕ) (rows : List Row) (a : List ℕ × ℕ) → list_any (λ x. same_member bytes_eq x a) (holders n rows) ≡ (nat_eq n a.1 && list_any (λ row. bytes_eq row.0 a.0 && has_number n row) rows)
any_holder n [] a = by (nat_eq n a.1)
  where
    by : (b : Bool) → false ≡ (b && false)
    by true = refl
    by false = refl
any_holder n (row ∷ rows) a = by (has_number n row) (any_holder n rows a)
  where
    rest : Bool
    rest = list_any (λ r. bytes_eq r.0 a.0 && has_number n r) rows

    with_it : (k m : Bool) → ((k && m) || (m && rest)) ≡ (m && ((k && true) || rest))
    with_it true true = refl
    with_it true false = refl
    with_it false true = refl
    with_it false false = refl

    without_it : (k : Bool) → rest ≡ ((k && false) || rest)
    without_it true = refl
    without_it false = refl

    by : (b : Bool) → list_any (λ x. same_member bytes_eq x a) (holders n rows) ≡ (nat_eq n a.1 && rest)
        → list_any (λ x. same_member bytes_eq x a) (map (with_number n) (cond b (row ∷ filter (has_number n) rows) (filter (has_number n) rows))) ≡ (nat_eq n a.1 && ((bytes_eq row.0 a.0 && b) || rest))
    by true same = ap (λ b. same_member bytes_eq (row.0, n) a || b) same ∙ with_it (bytes_eq row.0 a.0) (nat_eq n a.1)
    by false same = same ∙ ap (λ b. nat_eq n a.1 && b) (without_it (bytes_eq row.0 a.0))

abbrev AreApart : List Row → Type 0
AreApart rows = IsDistinct (eq_by_cmp (slice_cmp nat_cmp)) (keys_of rows)

bytes_turned : (a b : List ℕ) → bytes_eq a b ≡ bytes_eq b a
bytes_turned a b = sym (is_eq-slice_cmp a b) ∙ (eq_by_cmp_equiv nat_list_cmp_total).symm a b ∙ is_eq-slice_cmp b a

-- no row has the key
none_has : (n : ℕ) (key : List ℕ) (rows : List Row) → AllByRecursion (λ k. eq_by_cmp (slice_cmp nat_cmp) key k ≡ false) (keys_of rows) → list_any (λ row. bytes_eq row.0 key && has_number n row) rows ≡ false
none_has n key [] all = refl
none_has n key (row ∷ rows) all = (λ i. ((bytes_turned row.0 key ∙ sym (is_eq-slice_cmp key row.0) ∙ all.0) i && has_number n row) || none_has n key rows all.1 i)

row_has : (n : ℕ) (key : List ℕ) (rows : List Row) → AreApart rows → list_any (λ row. bytes_eq row.0 key && has_number n row) rows ≡ set.contains (members_at rows key) n
unfolding IsDistinct
row_has n key [] apart = sym (set.contains-empty nat_cmp n)
row_has n key (row ∷ rows) apart =
    ap (λ b. (b && has_number n row) || list_any (λ r. bytes_eq r.0 key && has_number n r) rows) (bytes_turned row.0 key)
    ∙ by (row_has n key rows apart.1) (bytes_eq key row.0) refl
  where
    or_false : (b : Bool) → (b || false) ≡ b
    or_false true = refl
    or_false false = refl

    by : list_any (λ r. bytes_eq r.0 key && has_number n r) rows ≡ set.contains (members_at rows key) n → (b : Bool) → bytes_eq key row.0 ≡ b → ((b && has_number n row) || list_any (λ r. bytes_eq r.0 key && has_number n r) rows) ≡ set.contains (unwrap_or (cond b (Some row.1) (lookup (bytes_eq key) rows)) set.empty) n
    by rest true e =
        ap (λ b. has_number n row || b)
        (none_has n key rows (subst (λ (k : List ℕ). AllByRecursion (λ y. eq_by_cmp (slice_cmp nat_cmp) k y ≡ false) (keys_of rows)) (sym ((bytes_decides key row.0).0 e)) apart.0))
        ∙ or_false (has_number n row)
    by rest false e = rest

holders_apart : (n : ℕ) (rows : List Row) → AreApart rows → IsDistinct (same_member bytes_eq) (holders n rows)
unfolding IsDistinct
holders_apart n [] apart = tt
holders_apart n (row ∷ rows) apart = by (has_number n row) (others rows apart.0) (holders_apart n rows apart.1)
  where
    others : (rs : List Row) → AllByRecursion (λ k. eq_by_cmp (slice_cmp nat_cmp) row.0 k ≡ false) (keys_of rs) → AllByRecursion (λ y. same_member bytes_eq (row.0, n) y ≡ false) (holders n rs)
    others [] all = tt
    others (r ∷ rs) all = by (has_number n r) (others rs all.1)
      where
        by : (b : Bool) → AllByRecursion (λ y. same_member bytes_eq (row.0, n) y ≡ false) (holders n rs) → AllByRecursion (λ y. same_member bytes_eq (row.0, n) y ≡ false) (map (with_number n) (cond b (r ∷ filter (has_number n) rs) (filter (has_number n) rs)))
        by true rest = (ap (λ b. b && nat_eq n n) (sym (is_eq-slice_cmp row.0 r.0) ∙ all.0), rest)
        by false rest = rest

    by : (b : Bool) → AllByRecursion (λ y. same_member bytes_eq (row.0, n) y ≡ false) (holders n rows) → IsDistinct (same_member bytes_eq) (holders n rows)
        → IsDistinct (same_member bytes_eq) (map (with_number n) (cond b (row ∷ filter (has_number n) rows) (filter (has_number n) rows)))
    by true all rest = (all, rest)
    by false all rest = rest

pub forgotten : (old new : List ℕ → Members) (rows : List Row) (n e e' : ℕ) → IsStrictlySortedBy (slice_cmp nat_cmp) (keys_of rows) → ((key : List ℕ) → members_at rows key ≡ old key) → ((key : List ℕ) → new key ≡ set.remove (old key) n)
    → e' ≡ e + length (filter (has_number n) rows) → CountsEach bytes_eq old new e e'
forgotten old new rows n e e' rising exact went rise =
    let apart : AreApart rows = IsDistinct-from_sorted (slice_cmp nat_cmp) (keys_of rows) rising in
    record {
      changed = holders n rows;
      apart = holders_apart n rows apart;
      exact = λ a.
          any_holder n rows a
          ∙ ap (λ b. nat_eq n a.1 && b) (row_has n a.0 rows apart ∙ ap (λ (s : Members). set.contains s n) (exact a.0))
          ∙ by a (nat_eq n a.1) refl
          ∙ ap (λ (s : Members). differ (set.contains (old a.0) a.1) (set.contains s a.1)) (sym (went a.0));
      rise = rise ∙ ap (λ k. e + k) (sym (as_long (filter (has_number n) rows)));
    }
  where
    as_long : (rs : List Row) → length (map (with_number n) rs) ≡ length rs
    as_long [] = refl
    as_long (r ∷ rs) = let rest = as_long rs in omega (arith, rest)

    flips : (b : Bool) → b ≡ differ b false
    flips true = refl
    flips false = refl

    by : (a : List ℕ × ℕ) (b : Bool) → nat_eq n a.1 ≡ b → (b && set.contains (old a.0) n) ≡ differ (set.contains (old a.0) a.1) (set.contains (set.remove (old a.0) n) a.1)
    by a true same =
        ap (set.contains (old a.0)) (eqb-true n a.1 same)
        ∙ flips (set.contains (old a.0) a.1)
        ∙ ap (differ (set.contains (old a.0) a.1)) (sym (left_has (old a.0) n a.1 ∙ ap (λ b. not b && set.contains (old a.0) a.1) (ap (λ x. nat_eq x n) (sym (eqb-true n a.1 same)) ∙ number_itself n)))
    by a false other =
        sym (differ_itself (set.contains (old a.0) a.1))
        ∙ ap (differ (set.contains (old a.0) a.1)) (sym (left_has (old a.0) n a.1 ∙ ap (λ b. not b && set.contains (old a.0) a.1) (false_from_ne_true (nat_eq a.1 n) (λ h. both_ways (nat_eq n a.1) other (ap (λ x. nat_eq n x) (eqb-true a.1 n h) ∙ number_itself n)))))
