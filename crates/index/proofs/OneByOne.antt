-- One number under several keys.
use Rattle.std.proofs.Common.{◌≡◌, ℕ, zero, suc, ◌+◌, ◌<◌, Bool, true, false, not, cond, ◌&&◌, ◌||◌, List, [], ◌∷◌, length, nat_eq, get_or, take, refl, sym, ap, subst, ◌∙◌, arith}
use Rattle.std.proofs.lemmas.Bool.{or_left, or_right}
use Rattle.std.proofs.lemmas.List.{take_more}
use Rattle.std.proofs.lemmas.List.Folds.{list_any-append}
use Rattle.std.specs.List.{list_any, AllByRecursion, IsDistinct}
use Rattle.std.specs.Cmp.{nat_cmp_total, Equal-is, eq_by_cmp_equiv}
use Rattle.std.specs.Ordering.{nat_cmp, eq_by_cmp}
use Rattle.std.specs.FinSet as set
use Rattle.std.specs.Str.{bytes_eq}
use Rattle.index_text.specs.declared.slot_key.SlotKey.{SlotKey}
use Rattle.index_text.specs.KeySets.{Members}
use Rattle.index_text.specs.SlotKeys.{slot_key, same_slot_key}
use Rattle.index_text.proofs.SlotKeyOrder.{slot_key_is, itself}

-- ---- one set

pub put_again : (s : Members) (n : ℕ) → set.insert (set.insert s n) n ≡ set.insert s n
put_again s n = set.same_set nat_cmp_total set.nat_cmp-IsAntisymmetric _ _ (λ q.
    set.contains-insert nat_cmp_total (set.insert s n) n q ∙ ap (λ b. eq_by_cmp nat_cmp q n || b) (set.contains-insert nat_cmp_total s n q) ∙ twice (eq_by_cmp nat_cmp q n) (set.contains s q) ∙ sym (set.contains-insert nat_cmp_total s n q))
  where
    twice : (a b : Bool) → (a || (a || b)) ≡ (a || b)
    twice true b = refl
    twice false b = refl

pub take_again : (s : Members) (n : ℕ) → set.remove (set.remove s n) n ≡ set.remove s n
take_again s n = set.same_set nat_cmp_total set.nat_cmp-IsAntisymmetric _ _ (λ q.
    set.contains-remove nat_cmp_total (set.remove s n) n q ∙ ap (λ b. not (eq_by_cmp nat_cmp q n) && b) (set.contains-remove nat_cmp_total s n q) ∙ twice (not (eq_by_cmp nat_cmp q n)) (set.contains s q) ∙ sym (set.contains-remove nat_cmp_total s n q))
  where
    twice : (a b : Bool) → (a && (a && b)) ≡ (a && b)
    twice true b = refl
    twice false b = refl

-- what wasn't there goes again
pub back : (s : Members) (n : ℕ) → set.contains s n ≡ false → set.remove (set.insert s n) n ≡ s
back s n new = set.same_set nat_cmp_total set.nat_cmp-IsAntisymmetric _ _ (λ q.
    set.contains-remove nat_cmp_total (set.insert s n) n q ∙ ap (λ b. not (eq_by_cmp nat_cmp q n) && b) (set.contains-insert nat_cmp_total s n q) ∙ by q (eq_by_cmp nat_cmp q n) refl)
  where
    by : (q : ℕ) (b : Bool) → eq_by_cmp nat_cmp q n ≡ b → (not b && (b || set.contains s q)) ≡ set.contains s q
    by q true is = sym new ∙ set.contains_tied nat_cmp_total s q n ((Equal-is (nat_cmp q n)).0 is)
    by q false is = refl

-- ---- keys under slots

abbrev pub among : List SlotKey → SlotKey → Bool
among ps p = list_any (λ x. same_slot_key x p) ps

any_more : (ps : List SlotKey) (i : ℕ) (d p : SlotKey) → i < length ps → among (take (i + 1) ps) p ≡ (among (take i ps) p || same_slot_key (get_or ps i d) p)
any_more ps i d p lt = ap (λ xs. among xs p) (take_more ps i d lt) ∙ list_any-append (λ x. same_slot_key x p) (take i ps) (get_or ps i d ∷ []) ∙ ap (λ b. among (take i ps) p || b) (or_false (same_slot_key (get_or ps i d) p))
  where
    or_false : (b : Bool) → (b || false) ≡ b
    or_false true = refl
    or_false false = refl

module _ (f : Members → Members) (again : (s : Members) → f (f s) ≡ f s) where
  -- one more posting changes
  pub one_more : (old mid new : SlotKey → Members) (ps : List SlotKey) (i : ℕ) (d : SlotKey) → i < length ps
      → ((p : SlotKey) → new p ≡ cond (same_slot_key (get_or ps i d) p) (f (mid p)) (mid p))
      → ((p : SlotKey) → mid p ≡ cond (among (take i ps) p) (f (old p)) (old p))
      → (p : SlotKey) → new p ≡ cond (among (take (i + 1) ps) p) (f (old p)) (old p)
  one_more old mid new ps i d lt step so_far p =
      step p
      ∙ ap (λ s. cond (same_slot_key (get_or ps i d) p) (f s) s) (so_far p)
      ∙ joined (among (take i ps) p) (same_slot_key (get_or ps i d) p) (old p)
      ∙ ap (λ b. cond b (f (old p)) (old p)) (sym (any_more ps i d p lt))
    where
      joined : (a b : Bool) (s : Members) → cond b (f (cond a (f s) s)) (cond a (f s) s) ≡ cond (a || b) (f s) s
      joined true true s = again s
      joined true false s = refl
      joined false true s = refl
      joined false false s = refl

unlike : (x : SlotKey) (xs : List SlotKey) (i : ℕ) (d : SlotKey) → AllByRecursion (λ y. same_slot_key x y ≡ false) xs → i < length xs → same_slot_key x (get_or xs i d) ≡ false
unlike x [] i d a h = absurd (omega (arith, h))
unlike x (y ∷ ys) zero d a h = a.0
unlike x (y ∷ ys) (suc i) d a h = unlike x ys i d a.1 (omega (arith, h))

pub not_before : (ps : List SlotKey) (i : ℕ) (d : SlotKey) → IsDistinct same_slot_key ps → i < length ps → among (take i ps) (get_or ps i d) ≡ false
unfolding IsDistinct
not_before [] i d apart h = absurd (omega (arith, h))
not_before (x ∷ xs) zero d apart h = refl
not_before (x ∷ xs) (suc i) d apart h = ap (λ b. b || among (take i xs) (get_or xs i d)) (unlike x xs i d apart.0 (omega (arith, h))) ∙ not_before xs i d apart.1 (omega (arith, h))

pub all_at : (P : SlotKey → Type 0) (ps : List SlotKey) (i : ℕ) (d : SlotKey) → AllByRecursion P ps → i < length ps → P (get_or ps i d)
all_at P [] i d a h = absurd (omega (arith, h))
all_at P (x ∷ xs) zero d a h = a.0
all_at P (x ∷ xs) (suc i) d a h = all_at P xs i d a.1 (omega (arith, h))

pub all_front : (P : SlotKey → Type 0) (ps : List SlotKey) (i : ℕ) → AllByRecursion P ps → AllByRecursion P (take i ps)
all_front P [] zero a = tt
all_front P [] (suc i) a = tt
all_front P (x ∷ xs) zero a = tt
all_front P (x ∷ xs) (suc i) a = (a.0, all_front P xs i a.1)

pub of_among : (P : SlotKey → Type 0) (ps : List SlotKey) (p : SlotKey) → AllByRecursion P ps → among ps p ≡ true → P p
of_among P [] p a h = cc
of_among P (x ∷ xs) p a h = by (λ m. of_among P xs p a.1 m) (same_slot_key x p) refl h
  where
    by : (among xs p ≡ true → P p) → (b : Bool) → same_slot_key x p ≡ b → (b || among xs p) ≡ true → P p
    by rest true e _ = subst P (slot_key_is x p e) a.0
    by rest false e m = rest m

-- what the first ones got is taken back
pub undone : (old mid new : SlotKey → Members) (ps : List SlotKey) (i n : ℕ)
    → AllByRecursion (λ p. set.contains (old p) n ≡ false) ps
    → ((p : SlotKey) → new p ≡ cond (among (take i ps) p) (set.remove (mid p) n) (mid p))
    → ((p : SlotKey) → mid p ≡ cond (among (take i ps) p) (set.insert (old p) n) (old p))
    → (p : SlotKey) → new p ≡ old p
undone old mid new ps i n lacking step so_far p =
    step p ∙ ap (λ s. cond (among (take i ps) p) (set.remove s n) s) (so_far p) ∙ by (among (take i ps) p) (λ h. of_among (λ p. set.contains (old p) n ≡ false) (take i ps) p (all_front _ ps i lacking) h)
  where
    by : (b : Bool) → (b ≡ true → set.contains (old p) n ≡ false) → cond b (set.remove (cond b (set.insert (old p) n) (old p)) n) (cond b (set.insert (old p) n) (old p)) ≡ old p
    by true new = back (old p) n (new refl)
    by false new = refl

-- the one that comes next still has what it had
pub next_is : (f : Members → Members) (old mid : SlotKey → Members) (ps : List SlotKey) (i : ℕ) (d : SlotKey) → IsDistinct same_slot_key ps → i < length ps
    → ((p : SlotKey) → mid p ≡ cond (among (take i ps) p) (f (old p)) (old p)) → mid (get_or ps i d) ≡ old (get_or ps i d)
next_is f old mid ps i d apart lt so_far = so_far (get_or ps i d) ∙ ap (λ b. cond b (f (old (get_or ps i d))) (old (get_or ps i d))) (not_before ps i d apart lt)

-- ---- the first ones

front_other : (x : SlotKey) (xs : List SlotKey) (i : ℕ) → AllByRecursion (λ y. same_slot_key x y ≡ false) xs → AllByRecursion (λ y. same_slot_key x y ≡ false) (take i xs)
front_other x xs i all = all_front (λ y. same_slot_key x y ≡ false) xs i all

pub front_distinct : (ps : List SlotKey) (i : ℕ) → IsDistinct same_slot_key ps → IsDistinct same_slot_key (take i ps)
unfolding IsDistinct
front_distinct [] zero apart = tt
front_distinct [] (suc i) apart = tt
front_distinct (x ∷ xs) zero apart = tt
front_distinct (x ∷ xs) (suc i) apart = (front_other x xs i apart.0, front_distinct xs i apart.1)

-- each of them got the number
pub all_have : (old new : SlotKey → Members) (n : ℕ) (ps all : List SlotKey) → ((p : SlotKey) → among ps p ≡ true → among all p ≡ true) → ((p : SlotKey) → new p ≡ cond (among all p) (set.insert (old p) n) (old p))
    → AllByRecursion (λ p. set.contains (new p) n ≡ true) ps
all_have old new n [] all more came = tt
all_have old new n (x ∷ xs) all more came = (
  ap (λ s. set.contains s n) (came x)
      ∙ ap (λ b. set.contains (cond b (set.insert (old x) n) (old x)) n) (more x (or_left (same_slot_key x x) (among xs x) (itself x)))
      ∙ set.contains-insert nat_cmp_total (old x) n n
      ∙ ap (λ b. b || set.contains (old x) n) ((eq_by_cmp_equiv nat_cmp_total).refl n),
  all_have old new n xs all (λ p h. more p (or_right (same_slot_key x p) (among xs p) h)) came,
)

-- ---- the same of an element that was read

pub all_read : (P : SlotKey → Type 0) (ps : List SlotKey) (i : ℕ) (x : SlotKey) → x ≡ get_or ps i x → AllByRecursion P ps → i < length ps → P x
all_read P ps i x is a lt = subst P (sym is) (all_at P ps i x a lt)

pub more_read : (f : Members → Members) → ((s : Members) → f (f s) ≡ f s) → (old mid new : SlotKey → Members) (ps : List SlotKey) (i : ℕ) (x : SlotKey) → x ≡ get_or ps i x → i < length ps
    → ((p : SlotKey) → new p ≡ cond (same_slot_key x p) (f (mid p)) (mid p))
    → ((p : SlotKey) → mid p ≡ cond (among (take i ps) p) (f (old p)) (old p))
    → (p : SlotKey) → new p ≡ cond (among (take (i + 1) ps) p) (f (old p)) (old p)
more_read f again old mid new ps i x is lt step so_far = one_more f again old mid new ps i x lt (subst (λ y. (p : SlotKey) → new p ≡ cond (same_slot_key y p) (f (mid p)) (mid p)) is step) so_far

pub next_read : (f : Members → Members) (old mid : SlotKey → Members) (ps : List SlotKey) (i : ℕ) (x : SlotKey) → x ≡ get_or ps i x → IsDistinct same_slot_key ps → i < length ps
    → ((p : SlotKey) → mid p ≡ cond (among (take i ps) p) (f (old p)) (old p)) → mid x ≡ old x
next_read f old mid ps i x is apart lt so_far = subst (λ y. mid y ≡ old y) (sym is) (next_is f old mid ps i x apart lt so_far)

-- ---- keys of one slot, one after the other

-- what the members come to when the number comes under these keys of a slot
abbrev pub with_keys : (SlotKey → Members) → ℕ → ℕ → List (List ℕ) → SlotKey → Members
with_keys old slot n keys p = cond (nat_eq slot p.slot.0 && list_any (λ k. bytes_eq k p.key) keys) (set.insert (old p) n) (old p)

pub one_key : (old new : SlotKey → Members) (slot n : ℕ) (key : List ℕ) (rest whole : List (List ℕ)) → whole ≡ key ∷ rest
    → ((p : SlotKey) → new p ≡ cond (same_slot_key (slot_key slot key) p) (set.insert (old p) n) (old p))
    → (p : SlotKey) → with_keys new slot n rest p ≡ with_keys old slot n whole p
one_key old new slot n key rest whole is step p =
    ap (λ (s : Members). cond (nat_eq slot p.slot.0 && list_any (λ k. bytes_eq k p.key) rest) (set.insert s n) s) (step p)
    ∙ by (nat_eq slot p.slot.0) (bytes_eq key p.key) (list_any (λ k. bytes_eq k p.key) rest)
    ∙ ap (λ keys. with_keys old slot n keys p) (sym is)
  where
    by : (a b c : Bool) → cond (a && c) (set.insert (cond (a && b) (set.insert (old p) n) (old p)) n) (cond (a && b) (set.insert (old p) n) (old p)) ≡ cond (a && (b || c)) (set.insert (old p) n) (old p)
    by true true true = put_again (old p) n
    by true true false = refl
    by true false true = refl
    by true false false = refl
    by false b c = refl

pub no_key : (old new : SlotKey → Members) (slot n : ℕ) (rest whole : List (List ℕ)) → rest ≡ []
    → ((p : SlotKey) → with_keys new slot n rest p ≡ with_keys old slot n whole p) → (p : SlotKey) → new p ≡ with_keys old slot n whole p
no_key old new slot n rest whole none h p = by (nat_eq slot p.slot.0) ∙ sym (ap (λ keys. with_keys new slot n keys p) none) ∙ h p
  where
    by : (a : Bool) → new p ≡ cond (a && false) (set.insert (new p) n) (new p)
    by true = refl
    by false = refl

-- ---- keys of the slots before one

pub one_slot : (old mid new : SlotKey → Members) (n : ℕ) (so_far here more : SlotKey → Bool)
    → ((p : SlotKey) → mid p ≡ cond (so_far p) (set.insert (old p) n) (old p))
    → ((p : SlotKey) → new p ≡ cond (here p) (set.insert (mid p) n) (mid p))
    → ((p : SlotKey) → (so_far p || here p) ≡ more p)
    → (p : SlotKey) → new p ≡ cond (more p) (set.insert (old p) n) (old p)
one_slot old mid new n so_far here more first second same p =
    second p
    ∙ ap (λ (s : Members). cond (here p) (set.insert s n) s) (first p)
    ∙ by (so_far p) (here p)
    ∙ ap (λ b. cond b (set.insert (old p) n) (old p)) (same p)
  where
    by : (a b : Bool) → cond b (set.insert (cond a (set.insert (old p) n) (old p)) n) (cond a (set.insert (old p) n) (old p)) ≡ cond (a || b) (set.insert (old p) n) (old p)
    by true true = put_again (old p) n
    by true false = refl
    by false true = refl
    by false false = refl
