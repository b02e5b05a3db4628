-- The values that are told are those that several entries have.
use Rattle.std.proofs.Common.{◌≡◌, ◌≢◌, ℕ, Bool, true, false, cond, inl, inr, List, [], ◌∷◌, map, filter, Option, Some, None, unwrap_or, nat_eq, refl, sym, ap, subst, ◌∙◌}
use Rattle.std.specs.Prelude.{T}
use Rattle.std.specs.List.{Contains, flat_map, list_any, AllByRecursion, IsDistinct}
use Rattle.std.specs.Map.{lookup, keys_of}
use Rattle.std.specs.Str.{bytes_eq}
use Rattle.std.specs.Ordering.{is_eq}
use Rattle.std.specs.declared.cmp.Ordering.TheVariants.{Less, Equal}
use Rattle.std.specs.Cmp.Lexicographic.{bytes_decides}
use Rattle.std.specs.FinMap as finite
use Rattle.std.specs.FinMap.Entries.{is_sorted, below_all}
use Rattle.std.proofs.lemmas.Cmp.{tied_itself}
use Rattle.std.proofs.lemmas.Bool.{or_cases, or_left, or_right, eqb-true, eq-eqb}
use Rattle.std.proofs.lemmas.List.Elements.{All-contains, All-from_recursion}
use Rattle.values.specs.declared.types.AttributeType.{AttributeType}
use Rattle.paths.specs.Paths.{Path, path_cmp}
use Rattle.schema.specs.Values.{norm_at, are_equal}
use Rattle.schema.specs.Conf.{Conf}
use Rattle.entries.specs.Entries.{Attribute, Attributes, IsAttribute, values_of, has_equal}
use Rattle.tree.specs.Directories.{Entries, IsDirectory}
use Rattle.tree.proofs.Order.{path_total}
use Rattle.tree.proofs.Views.{split_and}
use Rattle.checks.specs.declared.shared_value.SharedValue.{SharedValue}
use Rattle.checks.specs.EntryValues.{IsThere}
use Rattle.checks.specs.Sharing.{Placed, path_of, has_value, holders, begins_sharing, shared_value, shared_at, shared, IsShared, AreToldTogether, tell_the_same}
use Rattle.checks.proofs.Holding.{all_attributes}
use Rattle.checks.proofs.Twins.{distinct_append, distinct_filter, distinct_map, behind}
use Rattle.checks.proofs.Members.{here, later, not_in_none, first_or_later, in_filter, from_filter, in_map, from_map, in_flat_map, from_flat_map, same_path, is_in, is_there}

-- ---- the values of a type

found_in : (t : ℕ) (vs : List (List ℕ)) (attrs : Attributes) → lookup (nat_eq t) attrs ≡ Some vs → Contains attrs (t, vs)
found_in t vs [] is = cc
found_in t vs (a ∷ attrs) is = by (nat_eq t a.0) refl (found_in t vs attrs) is
  where
    by : (b : Bool) → nat_eq t a.0 ≡ b → (lookup (nat_eq t) attrs ≡ Some vs → Contains attrs (t, vs)) → cond b (Some a.1) (lookup (nat_eq t) attrs) ≡ Some vs → Contains (a ∷ attrs) (t, vs)
    by true same rest found =
        let values : a.1 ≡ vs = cc in
        let whole : a ≡ (t, vs) = (λ i. (sym (eqb-true t a.0 same) i, values i)) in
        subst (λ (x : Attribute). Contains (x ∷ attrs) (t, vs)) (sym whole) (here (t, vs) attrs)
    by false same rest found = later a (t, vs) attrs (rest found)

has_attribute : (t : ℕ) (v : List ℕ) (attrs : Attributes) → Contains (values_of attrs t) v → (vs : List (List ℕ)) × Contains attrs (t, vs) × Contains vs v
has_attribute t v attrs h = by (lookup (nat_eq t) attrs) refl h
  where
    by : (o : Option (List (List ℕ))) → lookup (nat_eq t) attrs ≡ o → Contains (unwrap_or o []) v → (vs : List (List ℕ)) × Contains attrs (t, vs) × Contains vs v
    by None is at = absurd (not_in_none v at)
    by (Some vs) is at = (vs, found_in t vs attrs is, at)

looked_up : (t : ℕ) (vs : List (List ℕ)) (attrs : Attributes) → IsDistinct nat_eq (keys_of attrs) → Contains attrs (t, vs) → lookup (nat_eq t) attrs ≡ Some vs
unfolding IsDistinct
looked_up t vs [] apart h = absurd (not_in_none (t, vs) h)
looked_up t vs (a ∷ attrs) apart h = elim (first_or_later a (t, vs) attrs h) [
  | inl is ↦ ap (λ b. cond b (Some a.1) (lookup (nat_eq t) attrs)) (eq-eqb t a.0 (sym (ap (λ (x : Attribute). x.0) is))) ∙ ap (λ (x : Attribute). Some x.1) is
  | inr more ↦ ap (λ b. cond b (Some a.1) (lookup (nat_eq t) attrs)) (other (nat_eq t a.0) refl more) ∙ looked_up t vs attrs apart.1 more
]
  where
    other : (b : Bool) → nat_eq t a.0 ≡ b → Contains attrs (t, vs) → nat_eq t a.0 ≡ false
    other false is more = is
    other true is more =
        let apart_from : nat_eq a.0 t ≡ false = All-contains (λ (k : ℕ). nat_eq a.0 k ≡ false) (keys_of attrs) t (All-from_recursion (λ (k : ℕ). nat_eq a.0 k ≡ false) (keys_of attrs) apart.0) (in_map (λ (x : Attribute). x.0) (t, vs) attrs more) in
        let same : nat_eq a.0 t ≡ true = eq-eqb a.0 t (sym (eqb-true t a.0 is)) in
        absurd (let k = sym same ∙ apart_from in cc)

-- ---- equal values

module _ (types : List AttributeType) (t : ℕ) where
  same_norm : (v w : List ℕ) → are_equal types t v w ≡ true → norm_at types t v ≡ norm_at types t w
  same_norm v w is = (bytes_decides (norm_at types t v) (norm_at types t w)).0 is

  pub equal_itself : (v : List ℕ) → are_equal types t v v ≡ true
  equal_itself v = (bytes_decides (norm_at types t v) (norm_at types t v)).1 refl

  pub equal_back : (v w : List ℕ) → are_equal types t v w ≡ true → are_equal types t w v ≡ true
  equal_back v w is = (bytes_decides (norm_at types t w) (norm_at types t v)).1 (sym (same_norm v w is))

  in_equal : (v w : List ℕ) (ws : List (List ℕ)) → Contains ws w → are_equal types t w v ≡ true → has_equal types t v ws ≡ true
  in_equal v w [] h is = absurd (not_in_none w h)
  in_equal v w (x ∷ ws) h is = elim (first_or_later x w ws h) [
    | inl same ↦ or_left (are_equal types t x v) (has_equal types t v ws) (ap (λ (y : List ℕ). are_equal types t y v) same ∙ is)
    | inr more ↦ or_right (are_equal types t x v) (has_equal types t v ws) (in_equal v w ws more is)
  ]

  from_equal : (v : List ℕ) (ws : List (List ℕ)) → has_equal types t v ws ≡ true → (w : List ℕ) × Contains ws w × (are_equal types t w v ≡ true)
  from_equal v [] h = absurd cc
  from_equal v (x ∷ ws) h = elim (or_cases (are_equal types t x v) (has_equal types t v ws) h) [
    | inl is ↦ (x, here x ws, is)
    | inr more ↦ let rest = from_equal v ws more in (rest.0, later x rest.0 ws rest.1, rest.2)
  ]

  -- equal values are had by the same entries
  pub same_holders : (es : List Placed) (v w : List ℕ) → are_equal types t v w ≡ true → holders types es t v ≡ holders types es t w
  same_holders es v w is = ap (λ (n : List ℕ). map path_of (filter (λ (e : Placed). list_any (λ x. bytes_eq (norm_at types t x) n) (values_of e.1.attrs t)) es)) (same_norm v w is)

  -- ---- what is told

  begun : (p : Path) (hs : List Path) → begins_sharing p hs ≡ true → (q : Path) × (more : List Path) × (hs ≡ p ∷ q ∷ more)
  begun p [] h = absurd cc
  begun p (q ∷ []) h = absurd cc
  begun p (q ∷ r ∷ more) h = (r, more, ap (λ (x : Path). x ∷ r ∷ more) (same_path q p h))

  begins_itself : (p q : Path) (more : List Path) → begins_sharing p (p ∷ q ∷ more) ≡ true
  begins_itself p q more = ap is_eq (tied_itself path_total p)

  module _ (d : Entries) where
    abbrev es : List Placed
    es = finite.entries d

    pub told_is_shared : (r : SharedValue) → Contains (shared types d t) r → IsShared types d t r
    told_is_shared r h =
        let e = from_flat_map (shared_at types es t) r es h in
        let v = from_map (shared_value types es t) r (filter (λ v. begins_sharing e.0.0 (holders types es t v)) (values_of e.0.1.attrs t)) e.2 in
        let kept = from_filter (λ v. begins_sharing e.0.0 (holders types es t v)) v.0 (values_of e.0.1.attrs t) v.1 in
        let many = begun e.0.0 (holders types es t v.0) kept.1 in
        let a = has_attribute t v.0 e.0.1.attrs kept.0 in
        subst (IsShared types d t) v.2 (record {
          all = refl;
          first = e.0.0;
          second = many.0;
          more = many.1;
          several = many.2;
          spelled = record { entry = e.0.1; at = is_there d e.0.0 e.0.1 e.1; values = a.0; attribute = a.1; value = a.2 };
        })

module _ (conf : Conf) (d : Entries) (is : IsDirectory conf d) (t : ℕ) where
  abbrev types : List AttributeType
  types = conf.types

  abbrev all : List Placed
  all = finite.entries d

  there_has : (p : Path) (v : List ℕ) → (h : IsThere d (record { path = p; type_id = t; value = v })) → Contains (values_of h.entry.attrs t) v
  there_has p v h = subst (λ (vs : List (List ℕ)). Contains vs v) (sym (ap (λ o. unwrap_or o []) (looked_up t h.values h.entry.attrs (is.good p h.entry h.at).types_apart h.attribute))) h.value

  -- an entry with an equal value is a holder
  is_holder : (p : Path) (v w : List ℕ) → IsThere d (record { path = p; type_id = t; value = w }) → are_equal types t w v ≡ true → Contains (holders types all t v) p
  is_holder p v w h equal =
      in_map path_of (p, h.entry) (filter (has_value types t v) all)
      (in_filter (has_value types t v) (p, h.entry) all (is_in d p h.entry h.at) (in_equal types t v w (values_of h.entry.attrs t) (there_has p w h) equal))

  two : (p q : Path) (hs : List Path) → p ≢ q → Contains hs p → Contains hs q → (x : Path) × (y : Path) × (more : List Path) × (hs ≡ x ∷ y ∷ more)
  two p q [] apart hp hq = absurd (not_in_none p hp)
  two p q (x ∷ []) apart hp hq = absurd (apart (sym (only x p hp) ∙ only x q hq))
    where
      only : (x y : Path) → Contains (x ∷ []) y → x ≡ y
      only x y h = elim (first_or_later x y [] h) [ inl same ↦ same | inr none ↦ absurd (not_in_none y none) ]
  two p q (x ∷ y ∷ more) apart hp hq = (x, y, more, refl)

  pub shared_is_told : (p q : Path) (v w : List ℕ) → p ≢ q → IsThere d (record { path = p; type_id = t; value = v }) → IsThere d (record { path = q; type_id = t; value = w }) → are_equal types t v w ≡ true
      → AreToldTogether types t (shared types d t) p v q w
  shared_is_told p q v w apart hp hq equal =
      let hs : List Path = holders types all t v in
      let at_p = is_holder p v v hp (equal_itself types t v) in
      let at_q = is_holder q v w hq (equal_back types t v w equal) in
      let many = two p q hs apart at_p at_q in
      let e = from_map path_of many.0 (filter (has_value types t v) all) (subst (λ (ps : List Path). Contains ps many.0) (sym many.3) (here many.0 (many.1 ∷ many.2))) in
      let kept = from_filter (has_value types t v) e.0 all e.1 in
      let u = from_equal types t v (values_of e.0.1.attrs t) kept.1 in
      let same : holders types all t u.0 ≡ hs = same_holders types t all u.0 v u.2 in
      let begins : begins_sharing e.0.0 (holders types all t u.0) ≡ true =
      ap (begins_sharing e.0.0) (same ∙ many.3) ∙ ap (λ (x : Path). begins_sharing x (many.0 ∷ many.1 ∷ many.2)) e.2 ∙ begins_itself types t many.0 many.1 many.2 in
      record {
        report = shared_value types all t u.0;
        told =
            in_flat_map (shared_at types all t) e.0 (shared_value types all t u.0) all kept.0
            (in_map (shared_value types all t) u.0 (filter (λ x. begins_sharing e.0.0 (holders types all t x)) (values_of e.0.1.attrs t))
            (in_filter (λ x. begins_sharing e.0.0 (holders types all t x)) u.0 (values_of e.0.1.attrs t) u.1 begins));
        one = record { equal = u.2; among = subst (λ (ps : List Path). Contains ps p) (sym same) at_p };
        other = record { equal = equal_over u.0 v w u.2 equal; among = subst (λ (ps : List Path). Contains ps q) (sym same) at_q };
      }
    where
      equal_over : (u v w : List ℕ) → are_equal types t u v ≡ true → are_equal types t v w ≡ true → are_equal types t u w ≡ true
      equal_over u v w first second = ap (λ (n : List ℕ). bytes_eq n (norm_at types t w)) (same_norm types t u v first) ∙ second

  -- ---- each once

  values_distinct : (attrs : Attributes) → AllByRecursion (IsAttribute types) attrs → IsDistinct (are_equal types t) (values_of attrs t)
  unfolding IsDistinct
  values_distinct [] good = tt
  values_distinct (a ∷ attrs) good = by (nat_eq t a.0) refl (values_distinct attrs good.1)
    where
      by : (b : Bool) → nat_eq t a.0 ≡ b → IsDistinct (are_equal types t) (values_of attrs t) → IsDistinct (are_equal types t) (unwrap_or (cond b (Some a.1) (lookup (nat_eq t) attrs)) [])
      by true same rest = subst (λ k. IsDistinct (are_equal types k) a.1) (sym (eqb-true t a.0 same)) good.0.apart
      by false same rest = rest

  module _ (e : Placed) (r : SharedValue) (told : Contains (shared_at types all t e) r) where
    begins_at : (q : Path) × (more : List Path) × (holders types all t r.value ≡ e.0 ∷ q ∷ more)
    begins_at =
        let v = from_map (shared_value types all t) r (filter (λ v. begins_sharing e.0 (holders types all t v)) (values_of e.1.attrs t)) told in
        let kept = from_filter (λ v. begins_sharing e.0 (holders types all t v)) v.0 (values_of e.1.attrs t) v.1 in
        subst (λ (s : SharedValue). (q : Path) × (more : List Path) × (holders types all t s.value ≡ e.0 ∷ q ∷ more)) v.2 (begun types t e.0 (holders types all t v.0) kept.1)

  apart_told : (e f : Placed) → path_cmp e.0 f.0 ≡ Less → (r s : SharedValue) → Contains (shared_at types all t e) r → Contains (shared_at types all t f) s → tell_the_same types t r s ≡ false
  apart_told e f less r s at_r at_s = by (tell_the_same types t r s) refl
    where
      by : (b : Bool) → tell_the_same types t r s ≡ b → tell_the_same types t r s ≡ false
      by false said = said
      by true said =
          let one = begins_at e r at_r in
          let other = begins_at f s at_s in
          let same : e.0 ∷ one.0 ∷ one.1 ≡ f.0 ∷ other.0 ∷ other.1 = sym one.2 ∙ same_holders types t all r.value s.value said ∙ other.2 in
          let first : e.0 ≡ f.0 = cc in
          let tie : path_cmp e.0 f.0 ≡ Equal = ap (path_cmp e.0) (sym first) ∙ tied_itself path_total e.0 in
          absurd (let k : Less ≡ Equal = sym less ∙ tie in cc)

  once_among : (xs : List Placed) → T (is_sorted path_cmp xs) → AllByRecursion (λ x. AllByRecursion (IsAttribute types) x.1.attrs) xs → IsDistinct (tell_the_same types t) (flat_map (shared_at types all t) xs)
  unfolding IsDistinct
  once_among [] rising good = tt
  once_among (e ∷ xs) rising good =
      let both = split_and (below_all path_cmp e.0 xs) (is_sorted path_cmp xs) rising in
      let f : List ℕ → Bool = λ v. begins_sharing e.0 (holders types all t v) in
      distinct_append (tell_the_same types t) (shared_at types all t e) (flat_map (shared_at types all t) xs)
      (distinct_map (tell_the_same types t) (shared_value types all t) (filter f (values_of e.1.attrs t)) (distinct_filter (are_equal types t) f (values_of e.1.attrs t) (values_distinct e.1.attrs good.0)))
      (once_among xs both.1 good.1)
      (λ r s at_r at_s. let g = from_flat_map (shared_at types all t) s xs at_s in apart_told e g.0 (behind e.0 xs g.0 both.0 g.1) r s at_r g.2)

  pub each_once : IsDistinct (tell_the_same types t) (shared types d t)
  each_once = once_among all (finite.entries_sorted d) (all_attributes conf d is)
