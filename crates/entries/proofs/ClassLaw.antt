-- What is tested of an entry's classes is what they ask for.
use Rattle.std.proofs.Common.{◌≡◌, ◌↔◌, ℕ, Bool, true, ◌||◌, ◌&&◌, List, [], ◌∷◌, inl, inr, refl, ap}
use Rattle.std.specs.Prelude.{nat_eq, is_some}
use Rattle.std.specs.List.{list_any, list_all, AllByRecursion}
use Rattle.std.proofs.lemmas.Bool.{eqb-true, and_parts}
use Rattle.values.specs.Types.{type_at}
use Rattle.schema.specs.Conf.{Conf}
use Rattle.schema.specs.Classes.{class_of, class_at}
use Rattle.schema.specs.Superclasses.{has_number, is_listed}
use Rattle.schema.proofs.Lineages.{either, or_left, or_right, one_passes, any_passes}
use Rattle.entries.specs.Entries.{Attributes, values_of}
use Rattle.entries.specs.EntryClasses.{has_type, are_classes, has_required, is_allowed, are_allowed, classes_of, fits_classes, BelongsTo, MayHave, IsObjectClass, Operational, Extensible, Listed, FitsClasses}
use Rattle.entries.proofs.ClassLemmas.{and_both, each_passes, all_pass}

each_of : {X : Type 0} (test : X → Bool) (xs : List X) → list_all test xs ≡ true → AllByRecursion (λ x. test x ≡ true) xs
each_of test [] e = tt
each_of test (x ∷ xs) e = let k = and_parts (test x) (list_all test xs) e in (k.0, each_of test xs k.1)

of_each : {X : Type 0} (test : X → Bool) (xs : List X) → AllByRecursion (λ x. test x ≡ true) xs → list_all test xs ≡ true
of_each test [] h = refl
of_each test (x ∷ xs) h = and_both (test x) (list_all test xs) h.0 (of_each test xs h.1)

module _ (conf : Conf) (attrs : Attributes) (listed : (d : ℕ) → (has_number (classes_of conf attrs) d ≡ true) ↔ BelongsTo conf attrs d) where
  abbrev own : List ℕ
  own = classes_of conf attrs

  abbrev names : ℕ → ℕ → Bool
  names t c = is_listed (class_at conf.classes c) t

  abbrev requires : ℕ → Bool
  requires c = list_all (has_type attrs) (class_at conf.classes c).must

  may : (t : ℕ) → is_allowed conf own t ≡ true → MayHave conf attrs t
  may t e = elim (either (nat_eq t 0) ((type_at conf.types t).is_operational || (has_number own 1 || list_any (names t) own)) e) [
    | inl zero ↦ IsObjectClass (eqb-true t 0 zero)
    | inr more ↦ elim (either (type_at conf.types t).is_operational (has_number own 1 || list_any (names t) own) more) [
      | inl server ↦ Operational server
      | inr classes ↦ elim (either (has_number own 1) (list_any (names t) own) classes) [
        | inl any ↦ Extensible ((listed 1).0 any)
        | inr one ↦ let k = one_passes (names t) own one in Listed k.0 ((listed k.0).0 k.1) k.2
      ]
    ]
  ]

  is_may : (t : ℕ) → MayHave conf attrs t → is_allowed conf own t ≡ true
  is_may t (IsObjectClass e) = or_left (nat_eq t 0) ((type_at conf.types t).is_operational || (has_number own 1 || list_any (names t) own)) (ap (λ k. nat_eq k 0) e)
  is_may t (Operational e) = or_right (nat_eq t 0) ((type_at conf.types t).is_operational || (has_number own 1 || list_any (names t) own)) (or_left (type_at conf.types t).is_operational (has_number own 1 || list_any (names t) own) e)
  is_may t (Extensible h) =
      or_right (nat_eq t 0) ((type_at conf.types t).is_operational || (has_number own 1 || list_any (names t) own))
      (or_right (type_at conf.types t).is_operational (has_number own 1 || list_any (names t) own) (or_left (has_number own 1) (list_any (names t) own) ((listed 1).1 h)))
  is_may t (Listed c h e) =
      or_right (nat_eq t 0) ((type_at conf.types t).is_operational || (has_number own 1 || list_any (names t) own))
      (or_right (type_at conf.types t).is_operational (has_number own 1 || list_any (names t) own)
      (or_right (has_number own 1) (list_any (names t) own) (any_passes (names t) own c ((listed c).1 h) e)))

  all_may : (xs : Attributes) → are_allowed conf own xs ≡ true → AllByRecursion (λ a. MayHave conf attrs a.0) xs
  all_may [] e = tt
  all_may (a ∷ more) e = let k = and_parts (is_allowed conf own a.0) (are_allowed conf own more) e in (may a.0 k.0, all_may more k.1)

  may_all : (xs : Attributes) → AllByRecursion (λ a. MayHave conf attrs a.0) xs → are_allowed conf own xs ≡ true
  may_all [] h = refl
  may_all (a ∷ more) h = and_both (is_allowed conf own a.0) (are_allowed conf own more) (is_may a.0 h.0) (may_all more h.1)

  pub fits_is : (fits_classes conf attrs ≡ true) ↔ FitsClasses conf attrs
  unfolding fits_classes
  fits_is = (
    λ e.
        let k = and_parts (are_classes conf.classes (values_of attrs 0)) (has_required conf.classes attrs own && are_allowed conf own attrs) e in
        let l = and_parts (has_required conf.classes attrs own) (are_allowed conf own attrs) k.1 in
        record {
          classes = each_of (λ v. is_some (class_of conf.classes v)) (values_of attrs 0) k.0;
          required = λ c t of there. each_passes (has_type attrs) (class_at conf.classes c).must (each_passes requires own l.0 c ((listed c).1 of)) t there;
          allowed = all_may attrs l.1;
        },
    λ h.
        and_both (are_classes conf.classes (values_of attrs 0)) (has_required conf.classes attrs own && are_allowed conf own attrs) (of_each (λ v. is_some (class_of conf.classes v)) (values_of attrs 0) h.classes)
        (and_both (has_required conf.classes attrs own) (are_allowed conf own attrs)
        (all_pass requires own (λ c there. all_pass (has_type attrs) (class_at conf.classes c).must (λ t must. h.required c t ((listed c).0 there) must)))
        (may_all attrs h.allowed)),
  )
