-- An entry that is settled has, as sets, what the other one has, and is one that a directory can have.
use Rattle.std.proofs.Common.{◌≡◌, ℕ, Bool, true, false, cond, not, List, [], ◌∷◌, ◌++◌, map, length, Option, Some, None, refl, sym, ap, subst, ◌∙◌}
use Rattle.std.specs.Prelude.{nat_eq, nat_le, is_some, ◌&&◌, ◌||◌, unwrap_or, filter}
use Rattle.std.specs.List.{AllByRecursion, IsDistinct, list_all}
use Rattle.std.specs.Map.{lookup, keys_of}
use Rattle.std.proofs.lemmas.Bool.{and_parts, or_parts, not-true, eqb-true}
use Rattle.std.proofs.lemmas.Cmp.{nat_eq_equiv}
use Rattle.std.proofs.lemmas.List.{append-nil}
use Rattle.values.specs.declared.types.AttributeType.{AttributeType}
use Rattle.values.specs.Types.{type_at}
use Rattle.entries.specs.Entries.{EntryContent, Attribute, Attributes, values_of, has_equal, IsAttribute, is_single, are_single}
use Rattle.entries.specs.EntryClasses.{has_type}
use Rattle.entries.proofs.StaysGood.{all_kept}
use Rattle.differences.specs.EntryChanges.{Values}
use Rattle.differences.specs.AsSets.{settled_values, is_among, settled_attribute, kept_attributes, new_attributes, settled_attributes}
use Rattle.differences.specs.Differences.{aimed}
use Rattle.differences.proofs.Parted.{all_pass, lookup_kept, lookup_left, lookup_before, types_kept, all_behind, list_all_kept}
use Rattle.differences.proofs.SettledLists.{among_is}
use Rattle.differences.proofs.SettledValues.{all_join, all_weaken, each_itself, each_wanted, is_covered, attribute_settled, one_at_most, are_apart, settled_itself}

-- a type with its values among attributes
abbrev pub Has : List AttributeType → Attributes → ℕ → Values → Type 0
Has types attrs t vs = (lookup (nat_eq t) attrs ≡ Some vs) × IsAttribute types (t, vs)

pub found_in : (types : List AttributeType) (attrs : Attributes) → AllByRecursion (IsAttribute types) attrs → (t : ℕ) (vs : Values) → lookup (nat_eq t) attrs ≡ Some vs → IsAttribute types (t, vs)
found_in types [] h t vs is = absurd cc
found_in types (a ∷ attrs) h t vs is = by (nat_eq t a.0) refl is (found_in types attrs h.1 t vs)
  where
    by : (c : Bool) → nat_eq t a.0 ≡ c → cond c (Some a.1) (lookup (nat_eq t) attrs) ≡ Some vs → (lookup (nat_eq t) attrs ≡ Some vs → IsAttribute types (t, vs)) → IsAttribute types (t, vs)
    by true e said later =
        let values : a.1 ≡ vs = ap (λ (o : Option Values). unwrap_or o []) said in
        subst (λ (n : ℕ). IsAttribute types (n, vs)) (sym (eqb-true t a.0 e)) (subst (λ (ws : Values). IsAttribute types (a.0, ws)) values h.0)
    by false e said later = later said

-- one value at most, if its type is such
single_in : (types : List AttributeType) (t : ℕ) (xs : Attributes) → list_all (is_single types) xs ≡ true → (ws : Values) → lookup (nat_eq t) xs ≡ Some ws → is_single types (t, ws) ≡ true
single_in types t [] all ws is = absurd cc
single_in types t (b ∷ xs) all ws is = step (nat_eq t b.0) refl is (and_parts (is_single types b) (list_all (is_single types) xs) all) (λ k. single_in types t xs k ws)
  where
    step : (c : Bool) → nat_eq t b.0 ≡ c → cond c (Some b.1) (lookup (nat_eq t) xs) ≡ Some ws → (is_single types b ≡ true) × (list_all (is_single types) xs ≡ true)
        → (list_all (is_single types) xs ≡ true → lookup (nat_eq t) xs ≡ Some ws → is_single types (t, ws) ≡ true) → is_single types (t, ws) ≡ true
    step true e said both later = (λ i. is_single types (eqb-true t b.0 e i, ap (λ (o : Option Values). unwrap_or o []) (sym said) i)) ∙ both.0
    step false e said both later = later both.1 said

-- ---- attributes settled by themselves

each_found : (xs : Attributes) → IsDistinct nat_eq (keys_of xs) → AllByRecursion (λ a. lookup (nat_eq a.0) xs ≡ Some a.1) xs
unfolding IsDistinct
each_found [] h = tt
each_found (a ∷ xs) h =
    (ap (λ c. cond c (Some a.1) (lookup (nat_eq a.0) xs)) (nat_eq_equiv.refl a.0), behind xs h.0 (each_found xs h.1))
  where
    behind : (ys : Attributes) → AllByRecursion (λ k. nat_eq a.0 k ≡ false) (keys_of ys) → AllByRecursion (λ b. lookup (nat_eq b.0) xs ≡ Some b.1) ys
        → AllByRecursion (λ b. lookup (nat_eq b.0) (a ∷ xs) ≡ Some b.1) ys
    behind [] k l = tt
    behind (b ∷ ys) k l = (ap (λ c. cond c (Some a.1) (lookup (nat_eq b.0) xs)) (nat_eq_equiv.symm b.0 a.0 ∙ k.0) ∙ l.0, behind ys k.1 l.1)

pub attributes_stay : (types : List AttributeType) (xs : Attributes) → IsDistinct nat_eq (keys_of xs) → settled_attributes types xs xs ≡ xs
attributes_stay types xs h = (λ i. kept xs (each_found xs h) i ++ none_new xs (each_found xs h) i) ∙ append-nil xs
  where
    among : (a : Attribute) → lookup (nat_eq a.0) xs ≡ Some a.1 → is_among xs a ≡ true
    among a at = among_is xs a.0 ∙ ap is_some at

    kept : (ys : Attributes) → AllByRecursion (λ a. lookup (nat_eq a.0) xs ≡ Some a.1) ys → kept_attributes types xs ys ≡ ys
    kept [] k = refl
    kept (a ∷ ys) k =
        ap (λ c. map (settled_attribute types xs) (cond c (a ∷ filter (is_among xs) ys) (filter (is_among xs) ys))) (among a k.0)
        ∙ (λ i. (a.0, (ap (λ (o : Option Values). settled_values types a.0 a.1 (unwrap_or o [])) k.0 ∙ settled_itself types a.0 a.1) i) ∷ kept ys k.1 i)

    none_new : (ys : Attributes) → AllByRecursion (λ a. lookup (nat_eq a.0) xs ≡ Some a.1) ys → new_attributes xs ys ≡ []
    none_new [] k = refl
    none_new (a ∷ ys) k = ap (λ c. cond (not c) (a ∷ new_attributes xs ys) (new_attributes xs ys)) (among a k.0) ∙ none_new ys k.1

module _ (types : List AttributeType) (before after : Attributes) where
  abbrev settled : Attributes
  settled = settled_attributes types before after

  -- ---- what is looked up

  -- the values of a type that both have, or that is new
  abbrev pub settled_at : ℕ → Option Values → Option Values → Option Values
  settled_at t (Some vs) (Some ws) = Some (settled_values types t vs ws)
  settled_at t (Some vs) None = None
  settled_at t None o = o

  kept_at : ℕ → Option Values → Option Values → Option Values
  kept_at t (Some vs) (Some ws) = Some (settled_values types t vs ws)
  kept_at t (Some vs) None = None
  kept_at t None o = None

  kept_none : (t : ℕ) (o : Option Values) → kept_at t o None ≡ None
  unfolding kept_at
  kept_none t (Some vs) = refl
  kept_none t None = refl

  kept_found : (t : ℕ) (attrs : Attributes) → lookup (nat_eq t) (kept_attributes types after attrs) ≡ kept_at t (lookup (nat_eq t) attrs) (lookup (nat_eq t) after)
  unfolding kept_at
  kept_found t [] = refl
  kept_found t (a ∷ attrs) = by (nat_eq t a.0) refl (is_among after a) refl (lookup (nat_eq t) after) refl (kept_found t attrs)
    where
      by : (c : Bool) → nat_eq t a.0 ≡ c → (d : Bool) → is_among after a ≡ d → (o : Option Values) → lookup (nat_eq t) after ≡ o
          → lookup (nat_eq t) (kept_attributes types after attrs) ≡ kept_at t (lookup (nat_eq t) attrs) (lookup (nat_eq t) after)
          → lookup (nat_eq t) (map (settled_attribute types after) (cond d (a ∷ filter (is_among after) attrs) (filter (is_among after) attrs))) ≡ kept_at t (cond c (Some a.1) (lookup (nat_eq t) attrs)) (lookup (nat_eq t) after)
      by false e true f o at rest = ap (λ c. cond c (Some (settled_values types a.0 a.1 (values_of after a.0))) (lookup (nat_eq t) (kept_attributes types after attrs))) e ∙ rest
      by false e false f o at rest = rest
      by true e true f (Some ws) at rest =
          let same : t ≡ a.0 = eqb-true t a.0 e in
          ap (λ c. cond c (Some (settled_values types a.0 a.1 (values_of after a.0))) (lookup (nat_eq t) (kept_attributes types after attrs))) e
          ∙ ap (λ n. Some (settled_values types n a.1 (values_of after n))) (sym same)
          ∙ ap (λ (p : Option Values). Some (settled_values types t a.1 (unwrap_or p []))) at
          ∙ sym (ap (kept_at t (Some a.1)) at)
      by true e true f None at rest =
          absurd (let k : true ≡ false = sym f ∙ among_is after a.0 ∙ ap (λ n. is_some (lookup (nat_eq n) after)) (sym (eqb-true t a.0 e)) ∙ ap is_some at in cc)
      by true e false f (Some ws) at rest =
          absurd (let k : false ≡ true = sym f ∙ among_is after a.0 ∙ ap (λ n. is_some (lookup (nat_eq n) after)) (sym (eqb-true t a.0 e)) ∙ ap is_some at in cc)
      by true e false f None at rest = rest ∙ ap (kept_at t (lookup (nat_eq t) attrs)) at ∙ kept_none t (lookup (nat_eq t) attrs) ∙ sym (ap (kept_at t (Some a.1)) at)

  new_found : (t : ℕ) → lookup (nat_eq t) (new_attributes before after) ≡ cond (is_some (lookup (nat_eq t) before)) None (lookup (nat_eq t) after)
  new_found t = by (is_some (lookup (nat_eq t) before)) refl
    where
      by : (c : Bool) → is_some (lookup (nat_eq t) before) ≡ c → lookup (nat_eq t) (new_attributes before after) ≡ cond c None (lookup (nat_eq t) after)
      by true e = lookup_left (λ a. not (is_among before a)) t (λ vs. ap not (among_is before t ∙ e)) after
      by false e = lookup_kept (λ a. not (is_among before a)) t (λ vs. ap not (among_is before t ∙ e)) after

  pub settled_found : (t : ℕ) → lookup (nat_eq t) settled ≡ settled_at t (lookup (nat_eq t) before) (lookup (nat_eq t) after)
  unfolding settled_at kept_at
  settled_found t = by (lookup (nat_eq t) before) refl (lookup (nat_eq t) after) refl (kept_found t before) (new_found t)
    where
      kept : Attributes
      kept = kept_attributes types after before

      new : Attributes
      new = new_attributes before after

      first : (xs ys : Attributes) (vs : Values) → lookup (nat_eq t) xs ≡ Some vs → lookup (nat_eq t) (xs ++ ys) ≡ Some vs
      first [] ys vs is = absurd cc
      first (a ∷ xs) ys vs is = step (nat_eq t a.0) is (first xs ys vs)
        where
          step : (c : Bool) → cond c (Some a.1) (lookup (nat_eq t) xs) ≡ Some vs → (lookup (nat_eq t) xs ≡ Some vs → lookup (nat_eq t) (xs ++ ys) ≡ Some vs) → cond c (Some a.1) (lookup (nat_eq t) (xs ++ ys)) ≡ Some vs
          step true said more = said
          step false said more = more said

      by : (o : Option Values) → lookup (nat_eq t) before ≡ o → (p : Option Values) → lookup (nat_eq t) after ≡ p
          → lookup (nat_eq t) kept ≡ kept_at t (lookup (nat_eq t) before) (lookup (nat_eq t) after)
          → lookup (nat_eq t) new ≡ cond (is_some (lookup (nat_eq t) before)) None (lookup (nat_eq t) after)
          → lookup (nat_eq t) (kept ++ new) ≡ settled_at t (lookup (nat_eq t) before) (lookup (nat_eq t) after)
      by (Some vs) e (Some ws) f k n =
          first kept new (settled_values types t vs ws) (k ∙ (λ i. kept_at t (e i) (f i))) ∙ sym (λ i. settled_at t (e i) (f i))
      by (Some vs) e None f k n =
          lookup_before t kept new (k ∙ (λ i. kept_at t (e i) (f i))) ∙ n ∙ ap (λ (o : Option Values). cond (is_some o) None (lookup (nat_eq t) after)) e ∙ sym (λ i. settled_at t (e i) (f i))
      by None e p f k n =
          lookup_before t kept new (k ∙ ap (λ (o : Option Values). kept_at t o (lookup (nat_eq t) after)) e) ∙ n ∙ ap (λ (o : Option Values). cond (is_some o) None (lookup (nat_eq t) after)) e
          ∙ sym (ap (λ (o : Option Values). settled_at t o (lookup (nat_eq t) after)) e)

  -- the same types
  pub same_types : (t : ℕ) → has_type settled t ≡ has_type after t
  unfolding settled_at
  same_types t = among_is settled t ∙ ap is_some (settled_found t) ∙ by (lookup (nat_eq t) before) (lookup (nat_eq t) after) ∙ sym (among_is after t)
    where
      by : (o p : Option Values) → is_some (settled_at t o p) ≡ is_some p
      by (Some vs) (Some ws) = refl
      by (Some vs) None = refl
      by None p = refl

  -- with equal values
  pub covered : (t : ℕ) (v : List ℕ) → has_equal types t v (values_of after t) ≡ true → has_equal types t v (values_of settled t) ≡ true
  unfolding settled_at
  covered t v there = ap (λ (o : Option Values). has_equal types t v (unwrap_or o [])) (settled_found t) ∙ by (lookup (nat_eq t) before) (lookup (nat_eq t) after) refl
    where
      by : (o p : Option Values) → lookup (nat_eq t) after ≡ p → has_equal types t v (unwrap_or (settled_at t o p) []) ≡ true
      by (Some vs) (Some ws) at = is_covered types t vs ws v (sym (ap (λ (o : Option Values). has_equal types t v (unwrap_or o [])) at) ∙ there)
      by (Some vs) None at = sym (ap (λ (o : Option Values). has_equal types t v (unwrap_or o [])) at) ∙ there
      by None p at = sym (ap (λ (o : Option Values). has_equal types t v (unwrap_or o [])) at) ∙ there

  pub all_wanted : (t : ℕ) → AllByRecursion (λ v. has_equal types t v (values_of after t) ≡ true) (values_of settled t)
  unfolding settled_at
  all_wanted t =
      subst (λ (o : Option Values). AllByRecursion (λ v. has_equal types t v (values_of after t) ≡ true) (unwrap_or o [])) (sym (settled_found t))
      (by (lookup (nat_eq t) before) (lookup (nat_eq t) after) refl)
    where
      each_own : (ws : Values) → AllByRecursion (λ v. has_equal types t v ws ≡ true) ws
      each_own ws = each_itself types t ws

      by : (o p : Option Values) → lookup (nat_eq t) after ≡ p → AllByRecursion (λ v. has_equal types t v (values_of after t) ≡ true) (unwrap_or (settled_at t o p) [])
      by (Some vs) (Some ws) at = subst (λ (q : Option Values). AllByRecursion (λ v. has_equal types t v (unwrap_or q []) ≡ true) (settled_values types t vs ws)) (sym at) (each_wanted types t vs ws)
      by (Some vs) None at = tt
      by None (Some ws) at = subst (λ (q : Option Values). AllByRecursion (λ v. has_equal types t v (unwrap_or q []) ≡ true) ws) (sym at) (each_own ws)
      by None None at = tt

  -- ---- what holds of each attribute

  module _ (h : AllByRecursion (IsAttribute types) before) (g : AllByRecursion (IsAttribute types) after) where
    kept_good : (attrs : Attributes) → AllByRecursion (IsAttribute types) attrs → AllByRecursion (IsAttribute types) (kept_attributes types after attrs)
    kept_good [] k = tt
    kept_good (a ∷ attrs) k = by (is_among after a) refl (lookup (nat_eq a.0) after) refl (kept_good attrs k.1)
      where
        by : (c : Bool) → is_among after a ≡ c → (o : Option Values) → lookup (nat_eq a.0) after ≡ o → AllByRecursion (IsAttribute types) (kept_attributes types after attrs)
            → AllByRecursion (IsAttribute types) (map (settled_attribute types after) (cond c (a ∷ filter (is_among after) attrs) (filter (is_among after) attrs)))
        by true e (Some ws) at rest =
            (subst (λ (o : Option Values). IsAttribute types (a.0, settled_values types a.0 a.1 (unwrap_or o []))) (sym at) (attribute_settled types a.0 a.1 ws k.0 (found_in types after g a.0 ws at)), rest)
        by true e None at rest = absurd (let l : true ≡ false = sym e ∙ among_is after a.0 ∙ ap is_some at in cc)
        by false e o at rest = rest

    pub attributes_good : AllByRecursion (IsAttribute types) settled
    attributes_good = all_join (IsAttribute types) (kept_attributes types after before) (new_attributes before after) (kept_good before h) (all_kept (IsAttribute types) (λ a. not (is_among before a)) after g)

    kept_single : (attrs : Attributes) → AllByRecursion (IsAttribute types) attrs → list_all (is_single types) after ≡ true → list_all (is_single types) (kept_attributes types after attrs) ≡ true
    kept_single [] k few = refl
    kept_single (a ∷ attrs) k few = by (is_among after a) refl (lookup (nat_eq a.0) after) refl (kept_single attrs k.1 few)
      where
        one : (ws : Values) → lookup (nat_eq a.0) after ≡ Some ws → is_single types (a.0, settled_values types a.0 a.1 ws) ≡ true
        one ws at = by_type ((type_at types a.0).single_value) (single_in types a.0 after few ws at)
          where
            by_type : (c : Bool) → (not c || nat_le (length ws) 1) ≡ true → (not c || nat_le (length (settled_values types a.0 a.1 ws)) 1) ≡ true
            by_type false said = refl
            by_type true said =
                one_at_most types a.0 (settled_values types a.0 a.1 ws) ws (are_apart types a.0 a.1 ws k.0.apart (found_in types after g a.0 ws at).apart) (each_wanted types a.0 a.1 ws) said

        by : (c : Bool) → is_among after a ≡ c → (o : Option Values) → lookup (nat_eq a.0) after ≡ o → list_all (is_single types) (kept_attributes types after attrs) ≡ true
            → list_all (is_single types) (map (settled_attribute types after) (cond c (a ∷ filter (is_among after) attrs) (filter (is_among after) attrs))) ≡ true
        by true e (Some ws) at rest = λ i. (ap (λ (o : Option Values). is_single types (a.0, settled_values types a.0 a.1 (unwrap_or o []))) at ∙ one ws at) i && rest i
        by true e None at rest = absurd (let l : true ≡ false = sym e ∙ among_is after a.0 ∙ ap is_some at in cc)
        by false e o at rest = rest

    pub single_good : are_single types after ≡ true → are_single types settled ≡ true
    single_good few =
        all_behind (is_single types) (kept_attributes types after before) (new_attributes before after) (kept_single before h few)
        (list_all_kept (λ a. not (is_among before a)) (is_single types) after few)

  -- ---- no type stands twice

  keys_all : (P : ℕ → Type 0) (attrs : Attributes) → AllByRecursion P (keys_of attrs) → AllByRecursion P (keys_of (kept_attributes types after attrs))
  keys_all P [] k = tt
  keys_all P (a ∷ attrs) k = by (is_among after a) (keys_all P attrs k.1)
    where
      by : (c : Bool) → AllByRecursion P (keys_of (kept_attributes types after attrs)) → AllByRecursion P (keys_of (map (settled_attribute types after) (cond c (a ∷ filter (is_among after) attrs) (filter (is_among after) attrs))))
      by true rest = (k.0, rest)
      by false rest = rest

  keys_join : (P : ℕ → Type 0) (xs ys : Attributes) → AllByRecursion P (keys_of xs) → AllByRecursion P (keys_of ys) → AllByRecursion P (keys_of (xs ++ ys))
  keys_join P [] ys k l = l
  keys_join P (x ∷ xs) ys k l = (k.0, keys_join P xs ys k.1 l)

  keys_from : (P : ℕ → Type 0) (ys : Attributes) → AllByRecursion (λ y. P y.0) ys → AllByRecursion P (keys_of ys)
  keys_from P [] k = tt
  keys_from P (y ∷ ys) k = (k.0, keys_from P ys k.1)

  types_apart_with : (attrs new : Attributes) → IsDistinct nat_eq (keys_of attrs) → IsDistinct nat_eq (keys_of new) → AllByRecursion (λ y. is_among attrs y ≡ false) new
      → IsDistinct nat_eq (keys_of (kept_attributes types after attrs ++ new))
  unfolding IsDistinct
  types_apart_with [] new k l other = l
  types_apart_with (a ∷ attrs) new k l other =
      by (is_among after a) (types_apart_with attrs new k.1 l (all_weaken (λ y. is_among (a ∷ attrs) y ≡ false) (λ y. is_among attrs y ≡ false) (λ y none. (or_parts (nat_eq y.0 a.0) (is_among attrs y) none).1) new other))
    where
      by : (c : Bool) → IsDistinct nat_eq (keys_of (kept_attributes types after attrs ++ new))
          → IsDistinct nat_eq (keys_of (map (settled_attribute types after) (cond c (a ∷ filter (is_among after) attrs) (filter (is_among after) attrs)) ++ new))
      by true rest = (
        keys_join (λ k. nat_eq a.0 k ≡ false) (kept_attributes types after attrs) new (keys_all (λ k. nat_eq a.0 k ≡ false) attrs k.0)
            (keys_from (λ k. nat_eq a.0 k ≡ false) new (all_weaken (λ y. is_among (a ∷ attrs) y ≡ false) (λ y. nat_eq a.0 y.0 ≡ false)
            (λ y none. nat_eq_equiv.symm a.0 y.0 ∙ (or_parts (nat_eq y.0 a.0) (is_among attrs y) none).0) new other)),
        rest,
      )
      by false rest = rest

  pub types_good : IsDistinct nat_eq (keys_of before) → IsDistinct nat_eq (keys_of after) → IsDistinct nat_eq (keys_of settled)
  types_good h g =
      types_apart_with before (new_attributes before after) h (types_kept types (λ a. not (is_among before a)) after g)
      (all_weaken (λ y. not (is_among before y) ≡ true) (λ y. is_among before y ≡ false) (λ y. not-true (is_among before y)) (new_attributes before after) (all_pass (λ a. not (is_among before a)) after))

-- what is to be there where attributes are the same has them too
pub aimed_stay : (as_sets : Bool) (types : List AttributeType) (x e : EntryContent) → x.attrs ≡ e.attrs → IsDistinct nat_eq (keys_of x.attrs) → x.attrs ≡ (aimed as_sets types (Some x) e).attrs
aimed_stay false types x e same h = same
aimed_stay true types x e same h = sym (ap (settled_attributes types x.attrs) (sym same) ∙ attributes_stay types x.attrs h)
