-- Attributes that are the same as sets are of the same classes.
use Rattle.std.proofs.Common.{◌≡◌, ◌↔◌, ℕ, Bool, true, false, cond, not, List, [], ◌∷◌, ◌++◌, Option, Some, None, refl, sym, ap, subst, ◌∙◌, inl, inr}
use Rattle.std.specs.Prelude.{nat_eq, is_some, ◌&&◌, ◌||◌, unwrap_or, position}
use Rattle.std.specs.List.{AllByRecursion, list_any, filter_map, cons_option}
use Rattle.std.specs.Map.{lookup}
use Rattle.std.specs.Str.{bytes_eq}
use Rattle.std.proofs.lemmas.Bool.{and_parts, or_cases, or_left, or_right, eqb-true}
use Rattle.values.specs.declared.types.AttributeType.{AttributeType}
use Rattle.values.specs.Types.{type_at}
use Rattle.matching.specs.Forms.{lower, norm}
use Rattle.schema.proofs.Lineages.{itself}
use Rattle.schema.specs.declared.object_class.ObjectClass.{ObjectClass}
use Rattle.schema.specs.Classes.{class_of, class_names}
use Rattle.schema.specs.Superclasses.{has_number}
use Rattle.schema.specs.Values.{are_equal, norm_at, norm_with}
use Rattle.schema.specs.Conf.{Conf, IsConf}
use Rattle.entries.specs.Entries.{Attribute, Attributes, values_of, has_equal, has_its_classes}
use Rattle.entries.specs.EntryClasses.{has_type, has_class, defines_classes, named_classes, fits_classes, FitsClasses, BelongsTo, MayHave, IsObjectClass, Operational, Extensible, Listed}
use Rattle.differences.specs.EntryChanges.{Values, is_fixed_at, users}
use Rattle.differences.specs.AsSets.{AreSameSets}
use Rattle.differences.proofs.Parted.{lookup_kept, lookup_left, lookup_before, lookup_behind}
use Rattle.differences.proofs.SettledValues.{any_holds, all_weaken, each_itself}
use Rattle.differences.proofs.SettledLists.{among_is}
use Rattle.differences.proofs.ValueLists.{bytes_same}

any_more : {X : Type 0} (p q : X → Bool) → ((x : X) → p x ≡ true → q x ≡ true) → (xs : List X) → list_any p xs ≡ true → list_any q xs ≡ true
any_more p q more [] h = absurd cc
any_more p q more (x ∷ xs) h = elim (or_cases (p x) (list_any p xs) h) [
  | inl here ↦ or_left (q x) (list_any q xs) (more x here)
  | inr later ↦ or_right (q x) (list_any q xs) (any_more p q more xs later)
]

same_any : {X : Type 0} (p q : X → Bool) → ((x : X) → p x ≡ q x) → (xs : List X) → list_any p xs ≡ list_any q xs
same_any p q same [] = refl
same_any p q same (x ∷ xs) = λ i. same x i || same_any p q same xs i

-- ---- classes by their names

-- equal values of objectClass name the same class
same_class : (conf : Conf) → IsConf conf → (v w : List ℕ) → are_equal conf.types 0 v w ≡ true → class_of conf.classes v ≡ class_of conf.classes w
unfolding class_of norm_at norm
same_class conf ok v w same =
    let by_rule : (u : List ℕ) → norm_at conf.types 0 u ≡ lower u = λ u. ap (λ (t : AttributeType). norm_with conf.types t.equality u) ok.first in
    let lowered : lower v ≡ lower w = sym (by_rule v) ∙ bytes_same (norm_at conf.types 0 v) (norm_at conf.types 0 w) same ∙ by_rule w in
    ap (λ (l : List ℕ). position (λ (c : ObjectClass). list_any (λ n. bytes_eq (lower n) l) (class_names c)) conf.classes) lowered

is_that : ℕ → Option ℕ → Bool
is_that c None = false
is_that c (Some d) = nat_eq c d

number_in : (f : List ℕ → Option ℕ) (vs : Values) (c : ℕ) → has_number (filter_map f vs) c ≡ list_any (λ v. is_that c (f v)) vs
unfolding is_that
number_in f [] c = refl
number_in f (v ∷ vs) c = by (f v) (number_in f vs c)
  where
    by : (o : Option ℕ) → has_number (filter_map f vs) c ≡ list_any (λ v. is_that c (f v)) vs → has_number (cons_option o (filter_map f vs)) c ≡ (is_that c o || list_any (λ v. is_that c (f v)) vs)
    by None rest = rest
    by (Some d) rest = ap (λ b. nat_eq c d || b) rest

module _ (conf : Conf) (ok : IsConf conf) where
  -- each value has an equal one among others
  abbrev AreWithin : Values → Values → Type 0
  AreWithin vs ws = AllByRecursion (λ v. has_equal conf.types 0 v ws ≡ true) vs

  named_within : (vs ws : Values) → AreWithin vs ws → (c : ℕ) → has_number (named_classes conf.classes vs) c ≡ true → has_number (named_classes conf.classes ws) c ≡ true
  named_within vs ws within c named =
      let one = any_holds (λ v. is_that c (class_of conf.classes v)) (λ v. has_equal conf.types 0 v ws ≡ true) vs within (sym (number_in (class_of conf.classes) vs c) ∙ named) in
      number_in (class_of conf.classes) ws c
      ∙ any_more (λ w. are_equal conf.types 0 w one.0) (λ w. is_that c (class_of conf.classes w)) (λ w same. ap (is_that c) (same_class conf ok w one.0 same) ∙ one.1) ws one.2

  classes_within : (vs ws : Values) → AreWithin vs ws → AllByRecursion (λ v. is_some (class_of conf.classes v) ≡ true) ws → AllByRecursion (λ v. is_some (class_of conf.classes v) ≡ true) vs
  classes_within vs ws within all =
      all_weaken (λ v. has_equal conf.types 0 v ws ≡ true) (λ v. is_some (class_of conf.classes v) ≡ true)
      (λ v there. let one = any_holds (λ w. are_equal conf.types 0 w v) (λ w. is_some (class_of conf.classes w) ≡ true) ws all there in ap is_some (sym (same_class conf ok one.0 v one.1)) ∙ one.2) vs within

  -- ---- what they ask

  module _ (tests : (attrs : Attributes) → (fits_classes conf attrs ≡ true) ↔ FitsClasses conf attrs) (xs ys : Attributes) (same : AreSameSets conf.types xs ys) where
    to_other : (c : ℕ) → BelongsTo conf xs c → BelongsTo conf ys c
    to_other c of = record { class = of.class; is_named = named_within (values_of xs 0) (values_of ys 0) (same.within 0) of.class of.is_named; derived = of.derived }

    from_other : (c : ℕ) → BelongsTo conf ys c → BelongsTo conf xs c
    from_other c of = record { class = of.class; is_named = named_within (values_of ys 0) (values_of xs 0) (same.covers 0) of.class of.is_named; derived = of.derived }

    may_have : (t : ℕ) → MayHave conf ys t → MayHave conf xs t
    may_have t (IsObjectClass e) = IsObjectClass e
    may_have t (Operational e) = Operational e
    may_have t (Extensible of) = Extensible (from_other 1 of)
    may_have t (Listed c of e) = Listed c (from_other c of) e

    has_itself : (attrs : Attributes) → AllByRecursion (λ a. has_type attrs a.0 ≡ true) attrs
    has_itself [] = tt
    has_itself (a ∷ attrs) = (
      or_left (nat_eq a.0 a.0) (has_type attrs a.0) (itself a.0),
      all_weaken (λ b. has_type attrs b.0 ≡ true) (λ b. has_type (a ∷ attrs) b.0 ≡ true) (λ b is. or_right (nat_eq b.0 a.0) (has_type attrs b.0) is) attrs (has_itself attrs),
    )

    each_may : (t : ℕ) (attrs : Attributes) → AllByRecursion (λ a. MayHave conf ys a.0) attrs → has_type attrs t ≡ true → MayHave conf ys t
    each_may t attrs all there =
        let one = any_holds (λ (a : Attribute). nat_eq t a.0) (λ a. MayHave conf ys a.0) attrs all there in
        subst (λ (n : ℕ). MayHave conf ys n) (sym (eqb-true t one.0.0 one.1)) one.2

    fits_same : FitsClasses conf ys → FitsClasses conf xs
    fits_same h = record {
      classes = classes_within (values_of xs 0) (values_of ys 0) (same.within 0) h.classes;
      required = λ c t of must. same.types_same t ∙ h.required c t (to_other c of) must;
      allowed = all_weaken (λ a. has_type xs a.0 ≡ true) (λ a. MayHave conf xs a.0) (λ a there. may_have a.0 (each_may a.0 ys h.allowed (sym (same.types_same a.0) ∙ there))) xs (has_itself xs);
    }

    pub classes_same : has_its_classes conf ys ≡ true → has_its_classes conf xs ≡ true
    classes_same h =
        let k = and_parts (has_class ys) (not (defines_classes conf) || fits_classes conf ys) h in
        (λ i. (same.types_same 0 ∙ k.0) i && by (not (defines_classes conf)) k.1 i)
      where
        by : (b : Bool) → (b || fits_classes conf ys) ≡ true → (b || fits_classes conf xs) ≡ true
        by true said = refl
        by false said = (tests xs).1 (fits_same ((tests ys).0 said))

-- ---- with what users can't change in place of their own

module _ (types : List AttributeType) (stays : Attributes) (are : AllByRecursion (λ a. is_fixed_at types a ≡ true) stays) where
  abbrev is_fixed : ℕ → Bool
  is_fixed t = (type_at types t).is_fixed

  abbrev whole : Attributes → Attributes
  whole attrs = users types attrs ++ stays

  none_stays : (t : ℕ) → is_fixed t ≡ false → (fs : Attributes) → AllByRecursion (λ a. is_fixed_at types a ≡ true) fs → lookup (nat_eq t) fs ≡ None
  none_stays t free [] h = refl
  none_stays t free (a ∷ fs) h = by (nat_eq t a.0) refl (none_stays t free fs h.1)
    where
      by : (b : Bool) → nat_eq t a.0 ≡ b → lookup (nat_eq t) fs ≡ None → cond b (Some a.1) (lookup (nat_eq t) fs) ≡ None
      by true e rest = absurd (let k = sym (ap is_fixed (eqb-true t a.0 e)) ∙ free in let l = sym k ∙ h.0 in cc)
      by false e rest = rest

  whole_free : (attrs : Attributes) (t : ℕ) → is_fixed t ≡ false → lookup (nat_eq t) (whole attrs) ≡ lookup (nat_eq t) attrs
  whole_free attrs t free = lookup_behind t (users types attrs) stays (none_stays t free stays are) ∙ lookup_kept (λ a. not (is_fixed_at types a)) t (λ vs. ap not free) attrs

  whole_fixed : (attrs : Attributes) (t : ℕ) → is_fixed t ≡ true → lookup (nat_eq t) (whole attrs) ≡ lookup (nat_eq t) stays
  whole_fixed attrs t bound = lookup_before t (users types attrs) stays (lookup_left (λ a. not (is_fixed_at types a)) t (λ vs. ap not bound) attrs)

  module _ (xs ys : Attributes) (same : AreSameSets types xs ys) where
    within : (us ws : Attributes) (t : ℕ) → AllByRecursion (λ v. has_equal types t v (values_of ws t) ≡ true) (values_of us t) → AllByRecursion (λ v. has_equal types t v (values_of (whole ws) t) ≡ true) (values_of (whole us) t)
    within us ws t h = by (is_fixed t) refl
      where
        by : (b : Bool) → is_fixed t ≡ b → AllByRecursion (λ v. has_equal types t v (values_of (whole ws) t) ≡ true) (values_of (whole us) t)
        by false e = subst (λ (o : Option Values). AllByRecursion (λ v. has_equal types t v (unwrap_or o []) ≡ true) (values_of (whole us) t)) (sym (whole_free ws t e))
            (subst (λ (o : Option Values). AllByRecursion (λ v. has_equal types t v (values_of ws t) ≡ true) (unwrap_or o [])) (sym (whole_free us t e)) h)
        by true e = subst (λ (o : Option Values). AllByRecursion (λ v. has_equal types t v (unwrap_or o []) ≡ true) (values_of (whole us) t)) (sym (whole_fixed ws t e))
            (subst (λ (o : Option Values). AllByRecursion (λ v. has_equal types t v (values_of stays t) ≡ true) (unwrap_or o [])) (sym (whole_fixed us t e)) (each_itself types t (values_of stays t)))

    types_whole : (t : ℕ) → has_type (whole xs) t ≡ has_type (whole ys) t
    types_whole t = among_is (whole xs) t ∙ by (is_fixed t) refl ∙ sym (among_is (whole ys) t)
      where
        by : (b : Bool) → is_fixed t ≡ b → is_some (lookup (nat_eq t) (whole xs)) ≡ is_some (lookup (nat_eq t) (whole ys))
        by true e = ap is_some (whole_fixed xs t e) ∙ ap is_some (sym (whole_fixed ys t e))
        by false e = ap is_some (whole_free xs t e) ∙ sym (among_is xs t) ∙ same.types_same t ∙ among_is ys t ∙ ap is_some (sym (whole_free ys t e))

    pub with_stays : AreSameSets types (whole xs) (whole ys)
    with_stays = record { types_same = types_whole; within = λ t. within xs ys t (same.within t); covers = λ t. within ys xs t (same.covers t) }
