-- Flaws of an entry as a whole that are found.
use Rattle.std.proofs.Common.{◌≡◌, ◌↔◌, ℕ, zero, suc, ◌+◌, ◌<◌, ◌≤◌, Bool, true, false, ◌||◌, ◌&&◌, List, [], ◌∷◌, ◌++◌, length, slice_index_or, Option, Some, None, Result, inl, inr, refl, sym, ap, subst, ◌∙◌, arith}
use Rattle.std.specs.Prelude.{nat_eq, nat_lt, is_some, IsTrue}
use Rattle.std.specs.Option.{option_map, SomeIff}
use Rattle.std.specs.List.{Any, AllByRecursion, list_any, list_all, flat_map, slice_get}
use Rattle.std.proofs.lemmas.Bool.{eqb-true, ltb-true, ltb-false}
use Rattle.std.proofs.lemmas.List.{append_assoc, length_push, length-map}
use Rattle.values.specs.Types.{type_at, is_known}
use Rattle.values.specs.Values.{Value}
use Rattle.values.specs.declared.types.AttributeType.{AttributeType}
use Rattle.schema.specs.declared.object_class.ObjectClass.{ObjectClass}
use Rattle.schema.specs.Classes.{class_of, class_at}
use Rattle.schema.specs.Conf.{Conf, IsConf}
use Rattle.schema.specs.FirstFlaws.{Not}
use Rattle.schema.specs.Superclasses.{has_number, lineage, with_superclasses, is_listed, is_required, is_named, is_extensible}
use Rattle.schema.proofs.Lineages.{itself, either, or_left, or_right, one_passes, any_of_lists}
use Rattle.entries.specs.Entries.{Attribute, Attributes, values_of, are_single, is_single}
use Rattle.entries.specs.EntryClasses.{has_class, has_type, are_classes, named_classes, classes_of, defines_classes, has_required, is_allowed, are_allowed}
use Rattle.entries.specs.StoredEntries.{EntryAttribute, attributes_of, raws}
use Rattle.entries.specs.inner.ClassChecks.{has_all_required, may_have, may_have_all}
use Rattle.entries.proofs.ClassLemmas.{each_passes}
use Rattle.entries.proofs.StoredLemmas.{values_raw}
use Rattle.reasons.specs.declared.reason.EntryReason.{EntryReason}
use Rattle.reasons.specs.declared.reason.EntryReason.TheVariants as entry_reasons
use Rattle.reasons.specs.EntryFlaws.{EntryFlaw, NoObjectClass, UnknownClass, LacksType, TypeNotAllowed, ManyValues, HasEntryFlaw, entry_order}
use Rattle.reasons.specs.Reasons.{entry_flaw_of, IsSoOfEntry, IsMany}
use Rattle.reasons.specs.inner.Entries.{class_order, NamesClasses, LacksIn, FindsInEntry, IsBehind}
use Rattle.reasons.proofs.Elements.{all_told, more_than_one, none_there}
use Rattle.reasons.proofs.Finding.{here, passed, before, behind}
use Rattle.reasons.proofs.RecordFound.{differ}

-- ---- elements

any_here : {X : Type 0} (P : X → Type 0) (x : X) (xs : List X) → P x → Any P (x ∷ xs)
any_here P x xs h = (0, x, omega arith, refl, h)

any_later : {X : Type 0} (P : X → Type 0) (x : X) (xs : List X) → Any P xs → Any P (x ∷ xs)
any_later P x xs h = (suc h.0, h.1, omega (arith, h.2), h.3, h.4)

same_one : {X : Type 0} (a b : X) → ◌≡◌ {A = Option X} (Some a) (Some b) → a ≡ b
same_one a b h = cc

pub any_get : {X : Type 0} (P : X → Type 0) (xs : List X) (i : ℕ) (x : X) → slice_get xs i ≡ Some x → P x → Any P xs
any_get P [] i x there h = absurd cc
any_get P (y ∷ xs) zero x there h = any_here P y xs (subst P (sym (same_one y x there)) h)
any_get P (y ∷ xs) (suc i) x there h = any_later P y xs (any_get P xs i x there h)

pub each_at : {X : Type 0} (P : X → Type 0) (xs : List X) (i : ℕ) (d : X) → AllByRecursion P xs → i < length xs → P (slice_index_or xs i d)
each_at P [] i d all lt = absurd (omega (arith, lt))
each_at P (x ∷ xs) zero d all lt = all.0
each_at P (x ∷ xs) (suc i) d all lt = each_at P xs i d all.1 (omega (arith, lt))

pub type_there : (es : List EntryAttribute) (i : ℕ) (d : EntryAttribute) → i < length es → has_type (attributes_of es) (slice_index_or es i d).0 ≡ true
type_there [] i d lt = absurd (omega (arith, lt))
type_there (e ∷ es) zero d lt = or_left (nat_eq e.0 e.0) (has_type (attributes_of es) e.0) (itself e.0)
type_there (e ∷ es) (suc i) d lt = or_right (nat_eq (slice_index_or es i d).0 e.0) (has_type (attributes_of es) (slice_index_or es i d).0) (type_there es i d (omega (arith, lt)))

any_typed : (Q : ℕ → Type 0) (attrs : Attributes) (t : ℕ) → has_type attrs t ≡ true → Q t → Any (λ a. Q a.0) attrs
any_typed Q [] t there h = absurd cc
any_typed Q (a ∷ attrs) t there h = elim (either (nat_eq t a.0) (has_type attrs t) there) [
  | inl it ↦ any_here (λ (b : Attribute). Q b.0) a attrs (subst Q (eqb-true t a.0 it) h)
  | inr other ↦ any_later (λ (b : Attribute). Q b.0) a attrs (any_typed Q attrs t other h)
]

-- an attribute with so many values
pub many_at : (n : ℕ) (es : List EntryAttribute) (i : ℕ) (d : EntryAttribute) → i < length es → length (slice_index_or es i d).1 ≡ n
    → Any (λ a. (a.0 ≡ (slice_index_or es i d).0) × (length a.1 ≡ n)) (attributes_of es)
many_at n [] i d lt counted = absurd (omega (arith, lt))
many_at n (e ∷ es) zero d lt counted = any_here (λ (a : Attribute). (a.0 ≡ e.0) × (length a.1 ≡ n)) (e.0, raws e.1) (attributes_of es) (refl, length-map e.1 (λ (v : Value). v.raw) ∙ counted)
many_at n (e ∷ es) (suc i) d lt counted = any_later (λ (a : Attribute). (a.0 ≡ (slice_index_or es i d).0) × (length a.1 ≡ n)) (e.0, raws e.1) (attributes_of es) (many_at n es i d (omega (arith, lt)) counted)

pub above_one : (b : Bool) (n : ℕ) → (IsTrue b ↔ (n ≤ 1)) → b ≡ false → 1 < n
above_one b zero told off = absurd (let on : IsTrue b = told.1 (omega arith) in differ b on off)
above_one b (suc zero) told off = absurd (let on : IsTrue b = told.1 (omega arith) in differ b on off)
above_one b (suc (suc n)) told off = omega arith

-- ---- values gone through

pub behind_one : (index more : ℕ) (v : Value) (vs rest : List Value) (all : List (List ℕ)) → vs ≡ v ∷ rest → more ≡ index + 1 → IsBehind index (raws vs) all → IsBehind more (raws rest) all
behind_one index more v vs rest all first next is = record {
  done = is.done ++ v.raw ∷ [];
  count = omega (arith, length_push is.done v.raw, is.count, next);
  all_are = is.all_are ∙ ap (λ (ws : List Value). is.done ++ raws ws) first ∙ sym (append_assoc is.done (v.raw ∷ []) (raws rest));
}

pub counted : (o : Option ℕ) (i n : ℕ) (P : Type 0) → o ≡ Some i → SomeIff o P n → i ≡ n
counted o i n P is h = (subst (λ (x : Option ℕ). SomeIff x P n) is h).1

-- ---- classes with their superclasses

all_append : (test : ℕ → Bool) (xs ys : List ℕ) → list_all test (xs ++ ys) ≡ (list_all test xs && list_all test ys)
all_append test [] ys = refl
all_append test (x ∷ xs) ys = ap (λ b. test x && b) (all_append test xs ys) ∙ joined (test x) (list_all test xs) (list_all test ys)
  where
    joined : (a b c : Bool) → (a && (b && c)) ≡ ((a && b) && c)
    joined true b c = refl
    joined false b c = refl

all_of_lists : (test : ℕ → Bool) (f : ℕ → List ℕ) (xs : List ℕ) → list_all test (flat_map f xs) ≡ list_all (λ x. list_all test (f x)) xs
all_of_lists test f [] = refl
all_of_lists test f (x ∷ xs) = all_append test (f x) (flat_map f xs) ∙ ap (λ b. list_all test (f x) && b) (all_of_lists test f xs)

any_of_both : (p q : ℕ → Bool) (xs : List ℕ) → list_any (λ x. p x || q x) xs ≡ (list_any p xs || list_any q xs)
any_of_both p q [] = refl
any_of_both p q (x ∷ xs) = ap (λ b. (p x || q x) || b) (any_of_both p q xs) ∙ mixed (p x) (q x) (list_any p xs) (list_any q xs)
  where
    mixed : (a b c d : Bool) → ((a || b) || (c || d)) ≡ ((a || c) || (b || d))
    mixed true b c d = refl
    mixed false true true d = refl
    mixed false true false d = refl
    mixed false false c d = refl

-- a type that is required is known
pub required_known : (conf : Conf) → IsConf conf → (c t : ℕ) → is_required conf.classes c t ≡ true → t < length conf.types
required_known conf is c t required =
    let k = one_passes (λ d. has_number (class_at conf.classes d).must t) (lineage conf.classes c) required in
    by k.0 k.2
  where
    known : (ts : List ℕ) → AllByRecursion (λ u. is_known conf.types u ≡ true) ts → has_number ts t ≡ true → t < length conf.types
    known [] all there = absurd cc
    known (u ∷ ts) all there = elim (either (nat_eq t u) (has_number ts t) there) [
      | inl it ↦ ltb-true t (length conf.types) (ap (is_known conf.types) (eqb-true t u it) ∙ all.0)
      | inr other ↦ known ts all.1 other
    ]

    far : (cs : List ObjectClass) (d : ℕ) → length cs ≤ d → has_number (class_at cs d).must t ≡ false
    far [] d le = refl
    far (x ∷ cs) zero le = absurd (omega (arith, le))
    far (x ∷ cs) (suc d) le = far cs d (omega (arith, le))

    by : (d : ℕ) → has_number (class_at conf.classes d).must t ≡ true → t < length conf.types
    by d there = elim (nat_lt d (length conf.classes)) as (λ b. nat_lt d (length conf.classes) ≡ b → t < length conf.types) [
      | true ↦ λ lt. known (class_at conf.classes d).must (is.classes d (ltb-true d (length conf.classes) lt)).must there
      | false ↦ λ ge. absurd (differ (has_number (class_at conf.classes d).must t) there (far conf.classes d (ltb-false d (length conf.classes) ge)))
    ] refl

module _ (conf : Conf) (attrs : Attributes) (named : List ℕ) where
  required_same : has_all_required conf.classes attrs named ≡ has_required conf.classes attrs (with_superclasses conf.classes named)
  required_same = sym (all_of_lists (λ c. list_all (has_type attrs) (class_at conf.classes c).must) (lineage conf.classes) named)

  may_same : (t : ℕ) → may_have conf named t ≡ is_allowed conf (with_superclasses conf.classes named) t
  may_same t =
      ap (λ b. nat_eq t 0 || ((type_at conf.types t).is_operational || b))
      (any_of_both (is_extensible conf.classes) (λ c. is_named conf.classes c t) named
      ∙ ap (λ b. b || list_any (λ c. is_named conf.classes c t) named) (sym (any_of_lists (nat_eq 1) (lineage conf.classes) named))
      ∙ ap (λ b. has_number (with_superclasses conf.classes named) 1 || b) (sym (any_of_lists (λ d. is_listed (class_at conf.classes d) t) (lineage conf.classes) named)))

  all_may_same : (some : Attributes) → may_have_all conf named some ≡ are_allowed conf (with_superclasses conf.classes named) some
  all_may_same [] = refl
  all_may_same (a ∷ more) = ap (λ b. b && may_have_all conf named more) (may_same a.0) ∙ ap (λ b. is_allowed conf (with_superclasses conf.classes named) a.0 && b) (all_may_same more)

  not_all : (c t : ℕ) → has_number named c ≡ true → is_required conf.classes c t ≡ true → has_type attrs t ≡ false → has_all_required conf.classes attrs named ≡ false
  not_all c t among required lacked = by (has_all_required conf.classes attrs named) refl
    where
      by : (b : Bool) → has_all_required conf.classes attrs named ≡ b → b ≡ false
      by false all = refl
      by true all =
          let own : has_required conf.classes attrs (lineage conf.classes c) ≡ true = each_passes (λ k. has_required conf.classes attrs (lineage conf.classes k)) named all c among in
          let k = one_passes (λ d. has_number (class_at conf.classes d).must t) (lineage conf.classes c) required in
          let musts : list_all (has_type attrs) (class_at conf.classes k.0).must ≡ true = each_passes (λ d. list_all (has_type attrs) (class_at conf.classes d).must) (lineage conf.classes c) own k.0 k.1 in
          absurd (differ (has_type attrs t) (each_passes (has_type attrs) (class_at conf.classes k.0).must musts t k.2) lacked)

-- ---- an entry

module _ (conf : Conf) (attrs : Attributes) where
  abbrev Has : EntryFlaw → Type 0
  Has f = HasEntryFlaw conf attrs f

  abbrev Found : List EntryFlaw → Option EntryReason → Type 0
  Found order found = FindsInEntry conf attrs order found

  entry_here : (why : EntryReason) (fs : List EntryFlaw) → Has (entry_flaw_of why) → IsSoOfEntry conf attrs why → Found (entry_flaw_of why ∷ fs) (Some why)
  entry_here why fs has so = record { first = here Has (entry_flaw_of why) fs has; so = so }

  entry_later : (f : EntryFlaw) (fs : List EntryFlaw) (found : Option EntryReason) → Not (Has f) → Found fs found → Found (f ∷ fs) found
  entry_later f fs found none is = record { first = passed Has f fs (option_map entry_flaw_of found) none is.first; so = is.so }

  pub no_class : (fs : List EntryFlaw) → has_class attrs ≡ false → Found (NoObjectClass ∷ fs) (Some entry_reasons.NoObjectClass)
  no_class fs is = entry_here entry_reasons.NoObjectClass fs is tt

  pub class_there : (fs : List EntryFlaw) (found : Option EntryReason) → has_class attrs ≡ true → Found fs found → Found (NoObjectClass ∷ fs) found
  class_there fs found is h = entry_later NoObjectClass fs found (λ none. differ (has_class attrs) is none) h

  abbrev belongs : List ℕ
  belongs = classes_of conf attrs

  lacks_told : (has_required conf.classes attrs belongs ≡ false) ↔ Any (λ c. Any (λ t. has_type attrs t ≡ false) (class_at conf.classes c).must) belongs
  lacks_told = all_told (λ c. list_all (has_type attrs) (class_at conf.classes c).must) (λ c. Any (λ t. has_type attrs t ≡ false) (class_at conf.classes c).must)
      (λ c. all_told (has_type attrs) (λ t. has_type attrs t ≡ false) (λ t. (λ h. h, λ h. h)) (class_at conf.classes c).must) belongs

  not_allowed_told : (are_allowed conf belongs attrs ≡ false) ↔ Any (λ a. is_allowed conf belongs a.0 ≡ false) attrs
  not_allowed_told = all_told (λ (a : Attribute). is_allowed conf belongs a.0) (λ a. is_allowed conf belongs a.0 ≡ false) (λ a. (λ h. h, λ h. h)) attrs

  unknown_told : (are_classes conf.classes (values_of attrs 0) ≡ false) ↔ Any (λ v. class_of conf.classes v ≡ None) (values_of attrs 0)
  unknown_told = all_told (λ v. is_some (class_of conf.classes v)) (λ v. class_of conf.classes v ≡ None) (λ v. (none_there (class_of conf.classes v), ap is_some)) (values_of attrs 0)

  many_told : (are_single conf.types attrs ≡ false) ↔ Any (λ a. ((type_at conf.types a.0).single_value ≡ true) × (1 < length a.1)) attrs
  many_told = all_told (is_single conf.types) (λ a. ((type_at conf.types a.0).single_value ≡ true) × (1 < length a.1)) (λ a. more_than_one (type_at conf.types a.0).single_value (length a.1)) attrs

  module _ (defined : defines_classes conf ≡ true) where
    pub unknown_class : (i : ℕ) (v : List ℕ) → slice_get (values_of attrs 0) i ≡ Some v → class_of conf.classes v ≡ None → Found class_order (Some (entry_reasons.UnknownClass i))
    unknown_class i v there none = entry_here (entry_reasons.UnknownClass i) (LacksType ∷ TypeNotAllowed ∷ []) (defined, any_get (λ w. class_of conf.classes w ≡ None) (values_of attrs 0) i v there none) (v, there, none)

    module _ (named : List ℕ) (all : are_classes conf.classes (values_of attrs 0) ≡ true) (are : named ≡ named_classes conf.classes (values_of attrs 0)) where
      known_classes : (found : Option EntryReason) → Found (LacksType ∷ TypeNotAllowed ∷ []) found → Found class_order found
      known_classes found h = entry_later UnknownClass (LacksType ∷ TypeNotAllowed ∷ []) found (λ has. differ (are_classes conf.classes (values_of attrs 0)) all (unknown_told.1 has.1)) h

      own : with_superclasses conf.classes named ≡ belongs
      own = ap (with_superclasses conf.classes) are

      required_is : has_all_required conf.classes attrs named ≡ has_required conf.classes attrs belongs
      required_is = required_same conf attrs named ∙ ap (has_required conf.classes attrs) own

      pub lacks_type : IsConf conf → (c t : ℕ) → LacksIn conf attrs named (Some (c, t)) → Found class_order (Some (entry_reasons.LacksType c t))
      lacks_type is c t lacks =
          known_classes (Some (entry_reasons.LacksType c t))
          (entry_here (entry_reasons.LacksType c t) (TypeNotAllowed ∷ [])
          (defined, lacks_told.0 (sym required_is ∙ not_all conf attrs named c t lacks.1 lacks.2 lacks.3))
          (record {
            class_known = lacks.0;
            type_known = required_known conf is c t lacks.2;
            named = subst (λ (ns : List ℕ). has_number ns c ≡ true) are lacks.1;
            required = lacks.2;
            lacked = lacks.3;
          }))

      module _ (has_all : has_all_required conf.classes attrs named ≡ true) where
        has_required_types : (found : Option EntryReason) → Found (TypeNotAllowed ∷ []) found → Found class_order found
        has_required_types found h = known_classes found (entry_later LacksType (TypeNotAllowed ∷ []) found (λ has. differ (has_required conf.classes attrs belongs) (sym required_is ∙ has_all) (lacks_told.1 has.1)) h)

        pub not_allowed_type : (t : ℕ) → t < length conf.types → has_type attrs t ≡ true → may_have conf named t ≡ false → Found class_order (Some (entry_reasons.TypeNotAllowed t))
        not_allowed_type t known there not_may =
            let refused : is_allowed conf belongs t ≡ false = sym (may_same conf attrs named t ∙ ap (λ (cs : List ℕ). is_allowed conf cs t) own) ∙ not_may in
            has_required_types (Some (entry_reasons.TypeNotAllowed t))
            (entry_here (entry_reasons.TypeNotAllowed t) [] (defined, any_typed (λ u. is_allowed conf belongs u ≡ false) attrs t there refused) (record { type_known = known; there = there; refused = refused }))

        pub fits : may_have_all conf named attrs ≡ true → Found class_order None
        fits may =
            let allowed : are_allowed conf belongs attrs ≡ true = sym (all_may_same conf attrs named attrs ∙ ap (λ (cs : List ℕ). are_allowed conf cs attrs) own) ∙ may in
            has_required_types None (entry_later TypeNotAllowed [] None (λ has. differ (are_allowed conf belongs attrs) allowed (not_allowed_told.1 has.1)) (record { first = tt; so = tt }))

  -- where no class is defined
  pub classes_undefined : defines_classes conf ≡ false → Found class_order None
  classes_undefined off =
      record { first = ((λ has. differ (defines_classes conf) has.0 off), ((λ has. differ (defines_classes conf) has.0 off), ((λ has. differ (defines_classes conf) has.0 off), tt))); so = tt }

  -- ---- the whole

  pub class_found : (found : Option EntryReason) → is_some found ≡ true → has_class attrs ≡ true → Found class_order found → Found entry_order found
  class_found None some there is = absurd cc
  class_found (Some why) some there is = class_there (UnknownClass ∷ LacksType ∷ TypeNotAllowed ∷ ManyValues ∷ []) (Some why) there (record { first = before Has class_order (ManyValues ∷ []) (entry_flaw_of why) is.first; so = is.so })

  module _ (there : has_class attrs ≡ true) (fine : Found class_order None) where
    behind_classes : (found : Option EntryReason) → Found (ManyValues ∷ []) found → Found entry_order found
    behind_classes found is = class_there (UnknownClass ∷ LacksType ∷ TypeNotAllowed ∷ ManyValues ∷ []) found there (record { first = behind Has class_order (ManyValues ∷ []) (option_map entry_flaw_of found) fine.first is.first; so = is.so })

    pub many_found : (t n : ℕ) → IsMany conf attrs t n → Found entry_order (Some (entry_reasons.ManyValues t n))
    many_found t n is =
        let k = is.counted in
        behind_classes (Some (entry_reasons.ManyValues t n))
        (entry_here (entry_reasons.ManyValues t n) [] (k.0, k.1, k.2, k.3, (subst (λ (u : ℕ). (type_at conf.types u).single_value ≡ true) (sym k.4.0) is.one_at_most, subst (λ (m : ℕ). 1 < m) (sym k.4.1) is.more)) is)

    pub single_found : are_single conf.types attrs ≡ true → Found entry_order None
    single_found is = behind_classes None (entry_later ManyValues [] None (λ has. differ (are_single conf.types attrs) is (many_told.1 has)) (record { first = tt; so = tt }))

  pub none_of_classes : (found : Option EntryReason) → is_some found ≡ false → Found class_order found → Found class_order None
  none_of_classes None none is = is
  none_of_classes (Some why) none is = absurd cc

-- ---- as calls know them

pub named_is : {V : Type 0} (items : V → List ℕ) (classes : List ObjectClass) (vs ws : List (List ℕ)) (o p : Result V ℕ) → vs ≡ ws → o ≡ p → NamesClasses items classes vs o → NamesClasses items classes ws p
named_is {V} items classes vs ws o p same is h = subst (λ (xs : List (List ℕ)). NamesClasses items classes xs p) same (subst (NamesClasses items classes vs) is h)

pub lacks_is : (conf : Conf) (attrs : Attributes) (ns ms : List ℕ) (o p : Option (ℕ × ℕ)) → ns ≡ ms → o ≡ p → LacksIn conf attrs ns o → LacksIn conf attrs ms p
lacks_is conf attrs ns ms o p same is h = subst (λ (xs : List ℕ). LacksIn conf attrs xs p) same (subst (LacksIn conf attrs ns) is h)

-- the values of objectClass
pub class_values : (types : List AttributeType) (es : List EntryAttribute) (vs : List Value) → vs ≡ values_of es 0 → raws vs ≡ values_of (attributes_of es) 0
class_values types es vs is = ap raws is ∙ sym (values_raw types 0 es)

pub same_at : (es : List EntryAttribute) (i : ℕ) (d e : EntryAttribute) → i < length es → slice_index_or es i d ≡ slice_index_or es i e
same_at [] i d e lt = absurd (omega (arith, lt))
same_at (x ∷ es) zero d e lt = refl
same_at (x ∷ es) (suc i) d e lt = same_at es i d e (omega (arith, lt))
