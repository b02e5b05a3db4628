-- What classes ask with all of their superclasses, class by class.
use Rattle.std.proofs.Common.{◌≡◌, ℕ, Bool, true, false, ◌||◌, ◌&&◌, List, [], ◌∷◌, ◌++◌, inl, inr, refl, sym, ap, ◌∙◌}
use Rattle.std.specs.Prelude.{nat_eq}
use Rattle.std.specs.List.{list_any, list_all, flat_map}
use Rattle.std.proofs.lemmas.Bool.{eqb-true, and_parts}
use Rattle.values.specs.Types.{type_at}
use Rattle.schema.specs.Conf.{Conf}
use Rattle.schema.specs.Classes.{class_at}
use Rattle.schema.specs.Superclasses.{has_number, lineage, with_superclasses, is_listed, is_required, is_named, is_extensible}
use Rattle.schema.proofs.Lineages.{itself, either, or_left, or_right, same_tests, one_passes, any_passes, any_of_lists}
use Rattle.entries.specs.StoredEntries.{EntryAttribute, raws, attributes_of}
use Rattle.entries.proofs.StoredLemmas.{values_raw}
use Rattle.entries.specs.Entries.{Attributes, values_of}
use Rattle.entries.specs.EntryClasses.{are_classes, named_classes, classes_of, fits_classes, has_type, has_required, is_allowed, are_allowed}
use Rattle.entries.specs.inner.ClassChecks.{has_all_required, may_have, may_have_all}

pub and_both : (a b : Bool) → a ≡ true → b ≡ true → (a && b) ≡ true
and_both a b e f = ap (λ x. x && b) e ∙ f

module _ (test : ℕ → Bool) where
  pub each_passes : (xs : List ℕ) → list_all test xs ≡ true → (n : ℕ) → has_number xs n ≡ true → test n ≡ true
  each_passes [] all n there = absurd cc
  each_passes (x ∷ xs) all n there =
      let k = and_parts (test x) (list_all test xs) all in
      elim (either (nat_eq n x) (has_number xs n) there) [
        | inl here ↦ ap test (eqb-true n x here) ∙ k.0
        | inr later ↦ each_passes xs k.1 n later
      ]

  pub all_pass : (xs : List ℕ) → ((n : ℕ) → has_number xs n ≡ true → test n ≡ true) → list_all test xs ≡ true
  all_pass [] h = refl
  all_pass (x ∷ xs) h = and_both (test x) (list_all test xs) (h x (or_left (nat_eq x x) (has_number xs x) (itself x))) (all_pass xs (λ n there. h n (or_right (nat_eq n x) (has_number xs n) there)))

-- ---- lists of classes

all_append : (test : ℕ → Bool) (xs ys : List ℕ) → list_all test (xs ++ ys) ≡ (list_all test xs && list_all test ys)
all_append test [] ys = refl
all_append test (x ∷ xs) ys = ap (λ b. test x && b) (all_append test xs ys) ∙ joined (test x) (list_all test xs) (list_all test ys)
  where
    joined : (a b c : Bool) → (a && (b && c)) ≡ ((a && b) && c)
    joined true b c = refl
    joined false b c = refl

all_of_lists : (test : ℕ → Bool) (f : ℕ → List ℕ) (xs : List ℕ) → list_all test (flat_map f xs) ≡ list_all (λ x. list_all test (f x)) xs
all_of_lists test f [] = refl
all_of_lists test f (x ∷ xs) = all_append test (f x) (flat_map f xs) ∙ ap (λ b. list_all test (f x) && b) (all_of_lists test f xs)

any_of_both : (p q : ℕ → Bool) (xs : List ℕ) → list_any (λ x. p x || q x) xs ≡ (list_any p xs || list_any q xs)
any_of_both p q [] = refl
any_of_both p q (x ∷ xs) = ap (λ b. (p x || q x) || b) (any_of_both p q xs) ∙ mixed (p x) (q x) (list_any p xs) (list_any q xs)
  where
    mixed : (a b c d : Bool) → ((a || b) || (c || d)) ≡ ((a || c) || (b || d))
    mixed true b c d = refl
    mixed false true true d = refl
    mixed false true false d = refl
    mixed false false c d = refl

-- ---- classes with their superclasses

module _ (conf : Conf) where
  pub required_at : (attrs : Attributes) (c : ℕ) (types : List ℕ) → ((t : ℕ) → has_number types t ≡ is_required conf.classes c t) → list_all (has_type attrs) types ≡ has_required conf.classes attrs (lineage conf.classes c)
  required_at attrs c types is =
      same_tests (list_all (has_type attrs) types) (has_required conf.classes attrs (lineage conf.classes c))
      (λ all. all_pass (λ d. list_all (has_type attrs) (class_at conf.classes d).must) (lineage conf.classes c)
      (λ d above. all_pass (has_type attrs) (class_at conf.classes d).must
      (λ t must. each_passes (has_type attrs) types all t (is t ∙ any_passes (λ k. has_number (class_at conf.classes k).must t) (lineage conf.classes c) d above must))))
      (λ all. all_pass (has_type attrs) types
      (λ t there.
      let k = one_passes (λ d. has_number (class_at conf.classes d).must t) (lineage conf.classes c) (sym (is t) ∙ there) in
      each_passes (has_type attrs) (class_at conf.classes k.0).must (each_passes (λ d. list_all (has_type attrs) (class_at conf.classes d).must) (lineage conf.classes c) all k.0 k.1) t k.2))

  required_same : (attrs : Attributes) (named : List ℕ) → has_all_required conf.classes attrs named ≡ has_required conf.classes attrs (with_superclasses conf.classes named)
  required_same attrs named = sym (all_of_lists (λ c. list_all (has_type attrs) (class_at conf.classes c).must) (lineage conf.classes) named)

  may_same : (named : List ℕ) (t : ℕ) → may_have conf named t ≡ is_allowed conf (with_superclasses conf.classes named) t
  may_same named t =
      ap (λ b. nat_eq t 0 || ((type_at conf.types t).is_operational || b))
      (any_of_both (is_extensible conf.classes) (λ c. is_named conf.classes c t) named
      ∙ ap (λ b. b || list_any (λ c. is_named conf.classes c t) named) (sym (any_of_lists (nat_eq 1) (lineage conf.classes) named))
      ∙ ap (λ b. has_number (with_superclasses conf.classes named) 1 || b) (sym (any_of_lists (λ d. is_listed (class_at conf.classes d) t) (lineage conf.classes) named)))

  all_may_same : (named : List ℕ) (attrs : Attributes) → may_have_all conf named attrs ≡ are_allowed conf (with_superclasses conf.classes named) attrs
  all_may_same named [] = refl
  all_may_same named (a ∷ more) = ap (λ b. b && may_have_all conf named more) (may_same named a.0) ∙ ap (λ b. is_allowed conf (with_superclasses conf.classes named) a.0 && b) (all_may_same named more)

-- ---- an entry

module _ (conf : Conf) (es : List EntryAttribute) where
  abbrev texts : List (List ℕ)
  texts = raws (values_of es 0)

  pub names_none : are_classes conf.classes texts ≡ false → false ≡ fits_classes conf (attributes_of es)
  unfolding fits_classes
  names_none e =
      sym (ap (λ b. b && (has_required conf.classes (attributes_of es) (classes_of conf (attributes_of es)) && are_allowed conf (classes_of conf (attributes_of es)) (attributes_of es)))
      (ap (are_classes conf.classes) (values_raw conf.types 0 es) ∙ e))

  pub fits_as_asked : (named : List ℕ) → are_classes conf.classes texts ≡ true → named ≡ named_classes conf.classes texts
      → (has_all_required conf.classes (attributes_of es) named && may_have_all conf named (attributes_of es)) ≡ fits_classes conf (attributes_of es)
  unfolding fits_classes
  fits_as_asked named e is =
      let own : List ℕ = classes_of conf (attributes_of es) in
      let all : with_superclasses conf.classes named ≡ own = ap (with_superclasses conf.classes) (is ∙ ap (named_classes conf.classes) (sym (values_raw conf.types 0 es))) in
      ap (λ b. b && may_have_all conf named (attributes_of es)) (required_same conf (attributes_of es) named ∙ ap (has_required conf.classes (attributes_of es)) all)
      ∙ ap (λ b. has_required conf.classes (attributes_of es) own && b) (all_may_same conf named (attributes_of es) ∙ ap (λ cs. are_allowed conf cs (attributes_of es)) all)
      ∙ sym (ap (λ b. b && (has_required conf.classes (attributes_of es) own && are_allowed conf own (attributes_of es))) (ap (are_classes conf.classes) (values_raw conf.types 0 es) ∙ e))
