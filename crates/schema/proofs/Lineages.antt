-- A class with its superclasses: as a list, and by the way up; and what is settled of each class by what is settled of those above it.
use Rattle.std.proofs.Common.{◌≡◌, ◌↔◌, ℕ, zero, suc, ◌+◌, ◌<◌, ◌≤◌, Bool, true, false, ◌||◌, List, [], ◌∷◌, ◌++◌, ◌⊎◌, inl, inr, length, get_or, drop, refl, sym, ap, subst, ◌∙◌, arith}
use Rattle.std.specs.Prelude.{nat_eq, nat_lt}
use Rattle.std.specs.List.{AllByRecursion, flat_map, list_any}
use Rattle.std.proofs.lemmas.Bool.{eqb-true, ltb-true}
use Rattle.std.proofs.Math.ListN.{get_or-eq_default}
use Rattle.std.proofs.lemmas.Bool.Decides.{nat_tests}
use Rattle.std.proofs.lemmas.List.{drop_more}
use Rattle.std.proofs.lemmas.List.Folds.{list_any-append}
use Rattle.schema.specs.declared.object_class.ObjectClass.{ObjectClass}
use Rattle.schema.specs.Classes.{class_at, no_class}
use Rattle.schema.specs.declared.settled.Settled.{Settled}
use Rattle.schema.specs.Superclasses.{has_number, LeadsUp, IsAtOrAbove, IsAtOrAboveOne, lineage_up, lineage, with_superclasses, is_listed, is_required, is_named, is_extensible}
use Rattle.schema.specs.inner.Settled.{settled_at, nothing, AreOrdered, IsSettled, IsSettledBy}

-- ---- numbers in lists

pub itself : (n : ℕ) → nat_eq n n ≡ true
itself n = grind (arith, nat_tests)

pub either : (a b : Bool) → (a || b) ≡ true → (a ≡ true) ⊎ (b ≡ true)
either true b e = inl refl
either false b e = inr e

pub or_left : (a b : Bool) → a ≡ true → (a || b) ≡ true
or_left a b e = ap (λ x. x || b) e

pub or_right : (a b : Bool) → b ≡ true → (a || b) ≡ true
or_right true b e = refl
or_right false b e = e

pub same_tests : (a b : Bool) → (a ≡ true → b ≡ true) → (b ≡ true → a ≡ true) → a ≡ b
same_tests true b f g = sym (f refl)
same_tests false true f g = g refl
same_tests false false f g = refl

pub in_all : (P : ℕ → Type 0) (xs : List ℕ) → AllByRecursion P xs → (n : ℕ) → has_number xs n ≡ true → P n
in_all P [] h n e = absurd cc
in_all P (x ∷ xs) h n e = elim (either (nat_eq n x) (has_number xs n) e) [
  | inl here ↦ subst P (sym (eqb-true n x here)) h.0
  | inr later ↦ in_all P xs h.1 n later
]

not_below : (a b : ℕ) → nat_lt a b ≡ false → b ≤ a
not_below a b e = grind (arith, nat_tests)

first_or_later : (a b : ℕ) → a ≤ b → (a ≡ b) ⊎ (a + 1 ≤ b)
first_or_later a b le = by (nat_eq a b) refl
  where
    by : (x : Bool) → nat_eq a b ≡ x → (a ≡ b) ⊎ (a + 1 ≤ b)
    by true e = inl (eqb-true a b e)
    by false e = inr (grind (arith, nat_tests))

-- a number of one of the lists that a list leads to
record From (f : ℕ → List ℕ) (xs : List ℕ) (d : ℕ) : Type 0 where
  one : ℕ
  there : has_number xs one ≡ true
  leads : has_number (f one) d ≡ true

from_one : (f : ℕ → List ℕ) (xs : List ℕ) (d : ℕ) → has_number (flat_map f xs) d ≡ true → From f xs d
from_one f [] d e = absurd cc
from_one f (x ∷ xs) d e = elim (either (has_number (f x) d) (has_number (flat_map f xs) d) (sym (list_any-append (nat_eq d) (f x) (flat_map f xs)) ∙ e)) [
  | inl here ↦ record { one = x; there = or_left (nat_eq x x) (has_number xs x) (itself x); leads = here }
  | inr later ↦ let k = from_one f xs d later in record { one = k.one; there = or_right (nat_eq k.one x) (has_number xs k.one) k.there; leads = k.leads }
]

of_one : (f : ℕ → List ℕ) (xs : List ℕ) (d one : ℕ) → has_number xs one ≡ true → has_number (f one) d ≡ true → has_number (flat_map f xs) d ≡ true
of_one f [] d one there leads = absurd cc
of_one f (x ∷ xs) d one there leads =
    list_any-append (nat_eq d) (f x) (flat_map f xs)
    ∙ elim (either (nat_eq one x) (has_number xs one) there) [
      | inl here ↦ or_left (has_number (f x) d) (has_number (flat_map f xs) d) (subst (λ k. has_number (f k) d ≡ true) (eqb-true one x here) leads)
      | inr later ↦ or_right (has_number (f x) d) (has_number (flat_map f xs) d) (of_one f xs d one later leads)
    ]

-- ---- the way up, as a list

module _ (classes : List ObjectClass) where
  pub one_up : (c s d : ℕ) → has_number (class_at classes c).superiors s ≡ true → IsAtOrAbove classes s d → IsAtOrAbove classes c d
  one_up c s d up h = record { above = s ∷ h.above; by = (up, h.by) }

  listed_derived : (steps c d : ℕ) → has_number (lineage_up classes steps c) d ≡ true → IsAtOrAbove classes c d
  unfolding lineage_up
  listed_derived zero c d e = elim (either (nat_eq d c) false e) [
    | inl here ↦ record { above = []; by = sym (eqb-true d c here) }
    | inr later ↦ absurd cc
  ]
  listed_derived (suc steps) c d e = elim (either (nat_eq d c) (has_number (flat_map (lineage_up classes steps) (class_at classes c).superiors) d) e) [
    | inl here ↦ record { above = []; by = sym (eqb-true d c here) }
    | inr later ↦
        let k = from_one (lineage_up classes steps) (class_at classes c).superiors d later in
        one_up c k.one d k.there (listed_derived steps k.one d k.leads)
  ]

  -- the ones above have lower numbers, also above one that isn't there, which has none
  superior_lower : AreOrdered classes → (c s : ℕ) → has_number (class_at classes c).superiors s ≡ true → s < c
  superior_lower ordered c s up = in_all (λ k. k < c) (class_at classes c).superiors (all c) s up
    where
      all : (c : ℕ) → AllByRecursion (λ s. s < c) (class_at classes c).superiors
      all c = by (nat_lt c (length classes)) refl
        where
          by : (b : Bool) → nat_lt c (length classes) ≡ b → AllByRecursion (λ s. s < c) (class_at classes c).superiors
          by true e = ordered c (ltb-true c (length classes) e)
          by false e = subst (λ (k : ObjectClass). AllByRecursion (λ s. s < c) k.superiors) (sym (get_or-eq_default classes no_class (not_below c (length classes) e))) tt

  first_listed : (steps c : ℕ) → has_number (lineage_up classes steps c) c ≡ true
  unfolding lineage_up
  first_listed zero c = or_left (nat_eq c c) false (itself c)
  first_listed (suc steps) c = or_left (nat_eq c c) (has_number (flat_map (lineage_up classes steps) (class_at classes c).superiors) c) (itself c)

  derived_listed : AreOrdered classes → (above : List ℕ) (steps c d : ℕ) → c ≤ steps → LeadsUp classes c above d → has_number (lineage_up classes steps c) d ≡ true
  unfolding lineage_up
  derived_listed ordered [] steps c d le e = subst (λ k. has_number (lineage_up classes steps c) k ≡ true) e (first_listed steps c)
  derived_listed ordered (s ∷ ss) zero c d le h = absurd (let lower = superior_lower ordered c s h.0 in omega arith)
  derived_listed ordered (s ∷ ss) (suc steps) c d le h =
      let lower = superior_lower ordered c s h.0 in
      or_right (nat_eq d c) (has_number (flat_map (lineage_up classes steps) (class_at classes c).superiors) d)
      (of_one (lineage_up classes steps) (class_at classes c).superiors d s h.0 (derived_listed ordered ss steps s d (omega arith) h.1))

  pub listed : AreOrdered classes → (named : List ℕ) (d : ℕ) → (has_number (with_superclasses classes named) d ≡ true) ↔ IsAtOrAboveOne classes named d
  listed ordered named d = (
    λ e. let k = from_one (lineage classes) named d e in record { class = k.one; is_named = k.there; derived = listed_derived k.one k.one d k.leads },
    λ h. of_one (lineage classes) named d h.class h.is_named (derived_listed ordered h.derived.above h.class h.class d (omega arith) h.derived.by),
  )

-- ---- what is settled

pub same_place : {X : Type 0} (xs : List X) (i : ℕ) (d e : X) → i < length xs → get_or xs i d ≡ get_or xs i e
same_place [] i d e lt = absurd (omega arith)
same_place (x ∷ xs) zero d e lt = refl
same_place (x ∷ xs) (suc i) d e lt = same_place xs i d e (omega arith)

pub any_of_lists : (test : ℕ → Bool) (f : ℕ → List ℕ) (xs : List ℕ) → list_any test (flat_map f xs) ≡ list_any (λ x. list_any test (f x)) xs
any_of_lists test f [] = refl
any_of_lists test f (x ∷ xs) = list_any-append test (f x) (flat_map f xs) ∙ ap (λ b. list_any test (f x) || b) (any_of_lists test f xs)

-- the same test of each of these numbers
pub same_each : (p q : ℕ → Bool) (xs : List ℕ) → ((x : ℕ) → has_number xs x ≡ true → p x ≡ q x) → list_any p xs ≡ list_any q xs
same_each p q [] h = refl
same_each p q (x ∷ xs) h =
    ap (λ b. b || list_any p xs) (h x (or_left (nat_eq x x) (has_number xs x) (itself x)))
    ∙ ap (λ b. q x || b) (same_each p q xs (λ y there. h y (or_right (nat_eq y x) (has_number xs y) there)))

pub one_passes : (test : ℕ → Bool) (xs : List ℕ) → list_any test xs ≡ true → (n : ℕ) × (has_number xs n ≡ true) × (test n ≡ true)
one_passes test [] e = absurd cc
one_passes test (x ∷ xs) e = elim (either (test x) (list_any test xs) e) [
  | inl here ↦ (x, or_left (nat_eq x x) (has_number xs x) (itself x), here)
  | inr later ↦ let k = one_passes test xs later in (k.0, or_right (nat_eq k.0 x) (has_number xs k.0) k.1, k.2)
]

pub any_passes : (test : ℕ → Bool) (xs : List ℕ) (n : ℕ) → has_number xs n ≡ true → test n ≡ true → list_any test xs ≡ true
any_passes test [] n there e = absurd cc
any_passes test (x ∷ xs) n there e = elim (either (nat_eq n x) (has_number xs n) there) [
  | inl here ↦ or_left (test x) (list_any test xs) (ap test (sym (eqb-true n x here)) ∙ e)
  | inr later ↦ or_right (test x) (list_any test xs) (any_passes test xs n later e)
]

-- lists with the same members
pub same_any : (test : ℕ → Bool) (xs ys : List ℕ) → ((n : ℕ) → has_number xs n ≡ has_number ys n) → list_any test xs ≡ list_any test ys
same_any test xs ys same =
    same_tests (list_any test xs) (list_any test ys)
    (λ e. let k = one_passes test xs e in any_passes test ys k.0 (sym (same k.0) ∙ k.1) k.2)
    (λ e. let k = one_passes test ys e in any_passes test xs k.0 (same k.0 ∙ k.1) k.2)

-- one more of the lists that the numbers lead to
pub union_step : (f : ℕ → ℕ → Bool) (xs : List ℕ) (i : ℕ) (old new : ℕ → Bool) → i < length xs → ((t : ℕ) → new t ≡ (f (get_or xs i 0) t || old t))
    → (t : ℕ) → (new t || list_any (λ s. f s t) (drop (i + 1) xs)) ≡ (old t || list_any (λ s. f s t) (drop i xs))
union_step f xs i old new lt is t =
    ap (λ b. b || list_any (λ s. f s t) (drop (i + 1) xs)) (is t)
    ∙ swap (f (get_or xs i 0) t) (old t) (list_any (λ s. f s t) (drop (i + 1) xs))
    ∙ ap (λ ys. old t || list_any (λ s. f s t) ys) (sym (drop_more xs i 0 lt))
  where
    swap : (a b c : Bool) → ((a || b) || c) ≡ (b || (a || c))
    swap true true c = refl
    swap true false c = refl
    swap false b c = refl

pub known_step : (P : ℕ → Type 0) (xs : List ℕ) (i : ℕ) → i < length xs → AllByRecursion P (drop i xs) → P (get_or xs i 0) × AllByRecursion P (drop (i + 1) xs)
known_step P xs i lt h = subst (AllByRecursion P) (drop_more xs i 0 lt) h

pub place_before : {X : Type 0} (xs : List X) (x d : X) (k : ℕ) → k < length xs → get_or (xs ++ x ∷ []) k d ≡ get_or xs k d
place_before [] x d k lt = absurd (omega arith)
place_before (y ∷ ys) x d zero lt = refl
place_before (y ∷ ys) x d (suc k) lt = place_before ys x d k (omega arith)

pub place_last : {X : Type 0} (xs : List X) (x d : X) → get_or (xs ++ x ∷ []) (length xs) d ≡ x
place_last [] x d = refl
place_last (y ∷ ys) x d = place_last ys x d

module _ (classes : List ObjectClass) (ordered : AreOrdered classes) where
  -- a few steps more reach no more
  enough : (steps s d : ℕ) → s ≤ steps → has_number (lineage_up classes steps s) d ≡ has_number (lineage classes s) d
  enough steps s d le =
      same_tests (has_number (lineage_up classes steps s) d) (has_number (lineage classes s) d)
      (λ e. let k = listed_derived classes steps s d e in derived_listed classes ordered k.above s s d (omega arith) k.by)
      (λ e. let k = listed_derived classes s s d e in derived_listed classes ordered k.above steps s d le k.by)

  -- what one of a class and its superclasses passes: it does itself, or one of those above a direct superclass
  pub parts : (test : ℕ → Bool) (c : ℕ) → list_any test (lineage classes c) ≡ (test c || list_any (λ s. list_any test (lineage classes s)) (class_at classes c).superiors)
  unfolding lineage_up
  parts test zero = ap (λ (b : Bool). test 0 || b) (sym (none (class_at classes 0).superiors (λ s up. superior_lower classes ordered 0 s up)))
    where
      none : (xs : List ℕ) → ((s : ℕ) → has_number xs s ≡ true → s < 0) → list_any (λ s. list_any test (lineage classes s)) xs ≡ false
      none [] h = refl
      none (x ∷ xs) h = absurd (let lower = h x (or_left (nat_eq x x) (has_number xs x) (itself x)) in omega arith)
  parts test (suc k) =
      ap (λ (b : Bool). test (suc k) || b)
      (any_of_lists test (lineage_up classes k) (class_at classes (suc k)).superiors
      ∙ same_each (λ s. list_any test (lineage_up classes k s)) (λ s. list_any test (lineage classes s)) (class_at classes (suc k)).superiors
      (λ s up. same_any test (lineage_up classes k s) (lineage classes s) (λ d. enough k s d (let lower = superior_lower classes ordered (suc k) s up in omega arith))))

  module _ (above : List Settled) (c : ℕ) (before : (s : ℕ) → s < c → IsSettled classes s (settled_at above s)) where
    lower : (s : ℕ) → has_number (class_at classes c).superiors s ≡ true → s < c
    lower s up = superior_lower classes ordered c s up

    pub settles : (s : Settled) → IsSettledBy above (class_at classes c) c s → IsSettled classes c s
    settles s h = record {
      required = λ t.
          h.required t
          ∙ ap (λ b. has_number (class_at classes c).must t || b) (same_each (λ k. has_number (settled_at above k).required t) (λ k. is_required classes k t) (class_at classes c).superiors (λ k up. (before k (lower k up)).required t))
          ∙ sym (parts (λ d. has_number (class_at classes d).must t) c);
      allowed = λ t.
          h.allowed t
          ∙ ap (λ b. is_listed (class_at classes c) t || b) (same_each (λ k. has_number (settled_at above k).allowed t) (λ k. is_named classes k t) (class_at classes c).superiors (λ k up. (before k (lower k up)).allowed t))
          ∙ sym (parts (λ d. is_listed (class_at classes d) t) c);
      extensible =
          h.extensible
          ∙ ap (λ b. nat_eq 1 c || b) (same_each (λ k. (settled_at above k).extensible) (λ k. is_extensible classes k) (class_at classes c).superiors (λ k up. (before k (lower k up)).extensible))
          ∙ sym (parts (nat_eq 1) c);
    }

  pub known_at : (c : ℕ) (x : ObjectClass) (above : List Settled) → c < length classes → x ≡ class_at classes c → length above ≡ c → AllByRecursion (λ s. s < length above) x.superiors
  known_at c x above lt is sized =
      subst (λ (k : ObjectClass). AllByRecursion (λ s. s < length above) k.superiors) (sym is)
      (subst (λ n. AllByRecursion (λ s. s < n) (class_at classes c).superiors) (sym sized) (ordered c lt))

  pub one_more : (c : ℕ) (x : ObjectClass) (above : List Settled) (s : Settled) → x ≡ class_at classes c → length above ≡ c
      → ((k : ℕ) → k < c → IsSettled classes k (settled_at above k)) → IsSettledBy above x c s → (k : ℕ) → k < c + 1 → IsSettled classes k (settled_at (above ++ s ∷ []) k)
  one_more c x above s is sized before by k lt = elim (first_or_later k c (omega arith)) [
    | inl last ↦
        subst (λ n. IsSettled classes n (settled_at (above ++ s ∷ []) n)) (sym last)
        (subst (IsSettled classes c) (sym (ap (λ n. settled_at (above ++ s ∷ []) n) (sym sized) ∙ place_last above s nothing))
        (settles above c before s (subst (λ (y : ObjectClass). IsSettledBy above y c s) is by)))
    | inr early ↦ subst (IsSettled classes k) (sym (place_before above s nothing k (omega (arith, sized)))) (before k (omega arith))
  ]
