-- Flaws of a block's values that are found, and what the block leaves.
use Rattle.std.proofs.Common.{◌≡◌, ◌≢◌, ℕ, suc, ◌<◌, Bool, true, false, cond, not, ◌||◌, ◌&&◌, List, [], ◌∷◌, ◌++◌, length, take, get_or, Option, Some, None, Result, Ok, Err, refl, sym, ap, subst, ◌∙◌}
use Rattle.std.specs.Prelude.{filter, IfOk, IfNone}
use Rattle.std.specs.List.{list_any, slice_get, AllByRecursion}
use Rattle.std.specs.BTreeSet.{contains}
use Rattle.std.specs.Cmp.Lexicographic.{slice_cmp}
use Rattle.std.specs.Ordering.{nat_cmp}
use Rattle.std.specs.Str.{bytes_eq}
use Rattle.std.proofs.lemmas.List.{map-append}
use Rattle.std.proofs.lemmas.List.Folds.{list_any-append}
use Rattle.std.proofs.lemmas.Slice.Eq.{bytes_eq-Decides}
use Rattle.ldif.specs.declared.record.Mod.{Mod}
use Rattle.ldif.specs.declared.record.Op.{Op}
use Rattle.ldif.specs.declared.record.Op.TheVariants as ops
use Rattle.values.specs.declared.types.AttributeType.{AttributeType}
use Rattle.values.specs.Norms.{has_norm}
use Rattle.values.specs.Types.{type_of}
use Rattle.values.specs.Values.{Value}
use Rattle.schema.specs.Values.{is_valid_at, norm_at, are_equal}
use Rattle.entries.specs.Entries.{Attributes, values_of, has_equal}
use Rattle.entries.specs.StoredEntries.{EntryAttribute, raws, attributes_of, AreNormal, IsMade}
use Rattle.entries.proofs.Pushed.{all_push, equal_equiv}
use Rattle.entries.proofs.SetValues.{all_both}
use Rattle.entries.specs.Modifies.{set_values}
use Rattle.entries.proofs.ModifyLemmas.{made_set, raws_set}
use Rattle.entries.proofs.StoredLemmas.{any_norm, equal_stored, normal_values, values_raw}
use Rattle.reasons.specs.declared.changed_values.ChangedValues.{ChangedValues}
use Rattle.reasons.specs.BlockFlaws.{IsOfType, IsValue, ValueFlaw, BadSyntax, EqualValue, NoValue, HasValueFlaw, values_with, values_after, with_block, after_block}
use Rattle.reasons.specs.inner.Changes.{HasNormsOf, KeepsValues, is_there, value_flaw, value_order, changed_values}
use Rattle.reasons.specs.inner.Found.{FindsFirst}
use Rattle.reasons.proofs.Elements.{only_some}
use Rattle.reasons.proofs.Finding.{here, passed, at_place}
use Rattle.reasons.proofs.LinesFound.{take_one_more}
use Rattle.reasons.proofs.RecordFound.{differ}

-- ---- the value with an index

module _ (types : List AttributeType) (attrs : Attributes) (m : Mod) (i : ℕ) (v : List ℕ) (at : slice_get m.values i ≡ Some v) (t : ℕ) (known : IsOfType types m t) where
  abbrev pub by_then : List (List ℕ)
  by_then = values_with types t m.op (values_of attrs t) (take i m.values)

  abbrev Has : ValueFlaw → Type 0
  Has f = HasValueFlaw types attrs m i f

  is_value : IsValue types attrs m i t v by_then
  is_value = record { value = at; type_id = known; by_then = refl }

  abbrev Said : Type 1
  Said = ℕ → List ℕ → List (List ℕ) → Type 0

  -- what is so of the value with this index is so of this one
  of_value : (Q : Said) (u : ℕ) (w : List ℕ) (there : List (List ℕ)) → IsValue types attrs m i u w there → Q u w there → Q t v by_then
  of_value Q u w there is h =
      let type_is : u ≡ t = only_some (type_of types m.attr) u t is.type_id known in
      let value_is : w ≡ v = only_some (slice_get m.values i) w v is.value at in
      let there_is : there ≡ by_then = is.by_then ∙ ap (λ (s : ℕ). values_with types s m.op (values_of attrs s) (take i m.values)) type_is in
      subst (Q t v) there_is (subst (λ (z : List ℕ). Q t z there) value_is (subst (λ (s : ℕ). Q s w there) type_is h))

  pub bad_found : is_valid_at types t v ≡ false → FindsFirst Has value_order (Some BadSyntax)
  bad_found is = here Has BadSyntax (EqualValue ∷ NoValue ∷ []) (t, v, by_then, is_value, is)

  module _ (valid : is_valid_at types t v ≡ true) where
    fine : (o : Option ValueFlaw) → FindsFirst Has (EqualValue ∷ NoValue ∷ []) o → FindsFirst Has value_order o
    fine o h = passed Has BadSyntax (EqualValue ∷ NoValue ∷ []) o (λ has. differ (is_valid_at types t v) valid (of_value (λ u w there. is_valid_at types u w ≡ false) has.0 has.1 has.2 has.3 has.4)) h

    comes : m.op ≢ ops.Delete → (b : Bool) → has_equal types t v by_then ≡ b → FindsFirst Has value_order (cond b (Some EqualValue) None)
    comes op true is = fine (Some EqualValue) (here Has EqualValue (NoValue ∷ []) (t, v, by_then, is_value, op, is))
    comes op false is = fine None
        (passed Has EqualValue (NoValue ∷ []) None (λ has. differ (has_equal types t v by_then) (of_value (λ u w there. has_equal types u w there ≡ true) has.0 has.1 has.2 has.3 has.5) is)
        (passed Has NoValue [] None (λ has. op has.4) tt))

    goes : m.op ≡ ops.Delete → (b : Bool) → has_equal types t v by_then ≡ b → FindsFirst Has value_order (cond (not b) (Some NoValue) None)
    goes op true is = fine None
        (passed Has EqualValue (NoValue ∷ []) None (λ has. has.4 op)
        (passed Has NoValue [] None (λ has. differ (has_equal types t v by_then) is (of_value (λ u w there. has_equal types u w there ≡ false) has.0 has.1 has.2 has.3 has.5)) tt))
    goes op false is = fine (Some NoValue)
        (passed Has EqualValue (NoValue ∷ []) (Some NoValue) (λ has. has.4 op) (here Has NoValue [] (t, v, by_then, is_value, op, is)))

    pub looked : (op : Op) → m.op ≡ op → (b : Bool) → has_equal types t v by_then ≡ b → FindsFirst Has value_order (value_flaw op b)
    looked ops.Add op b is = comes (λ h. let both = sym op ∙ h in absurd cc) b is
    looked ops.Delete op b is = goes op b is
    looked ops.Replace op b is = comes (λ h. let both = sym op ∙ h in absurd cc) b is

-- ---- whether an equal value is there

module _ (types : List AttributeType) (t : ℕ) (v : List ℕ) where
  abbrev equals : List ℕ → Bool
  equals w = are_equal types t w v

  abbrev isnt_among : List (List ℕ) → List ℕ → Bool
  isnt_among vs w = not (list_any (are_equal types t w) vs)

  -- a value that equals this one equals what it equals
  same_tests : (w : List ℕ) → equals w ≡ true → (vs : List (List ℕ)) → list_any (are_equal types t w) vs ≡ list_any equals vs
  same_tests w same [] = refl
  same_tests w same (u ∷ vs) =
      let norms : norm_at types t w ≡ norm_at types t v = (bytes_eq-Decides (norm_at types t w) (norm_at types t v)).0 same in
      ap (λ (n : List ℕ). bytes_eq n (norm_at types t u) || list_any (are_equal types t w) vs) norms
      ∙ ap (λ (b : Bool). b || list_any (are_equal types t w) vs) ((equal_equiv types t).symm v u)
      ∙ ap (λ (b : Bool). equals u || b) (same_tests w same vs)

  delete_told : (vs old : List (List ℕ)) → list_any equals (filter (isnt_among vs) old) ≡ (list_any equals old && not (list_any equals vs))
  delete_told vs [] = refl
  delete_told vs (w ∷ old) = by (equals w) refl (list_any (are_equal types t w) vs) refl (delete_told vs old)
    where
      off : (b : Bool) → (b && false) ≡ false
      off true = refl
      off false = refl

      by : (b : Bool) → equals w ≡ b → (g : Bool) → list_any (are_equal types t w) vs ≡ g
          → list_any equals (filter (isnt_among vs) old) ≡ (list_any equals old && not (list_any equals vs))
          → list_any equals (cond (not (list_any (are_equal types t w) vs)) (w ∷ filter (isnt_among vs) old) (filter (isnt_among vs) old)) ≡ ((equals w || list_any equals old) && not (list_any equals vs))
      by true is true gone rest =
          let among : list_any equals vs ≡ true = sym (same_tests w is vs) ∙ gone in
          ap (λ (g : Bool). list_any equals (cond (not g) (w ∷ filter (isnt_among vs) old) (filter (isnt_among vs) old))) gone
          ∙ rest ∙ ap (λ (b : Bool). list_any equals old && not b) among ∙ off (list_any equals old)
          ∙ sym (ap (λ (b : Bool). (b || list_any equals old) && not (list_any equals vs)) is ∙ ap (λ (b : Bool). not b) among)
      by true is false stays rest =
          let among : list_any equals vs ≡ false = sym (same_tests w is vs) ∙ stays in
          ap (λ (g : Bool). list_any equals (cond (not g) (w ∷ filter (isnt_among vs) old) (filter (isnt_among vs) old))) stays
          ∙ ap (λ (b : Bool). b || list_any equals (filter (isnt_among vs) old)) is
          ∙ sym (ap (λ (b : Bool). (b || list_any equals old) && not (list_any equals vs)) is ∙ ap (λ (b : Bool). not b) among)
      by false is true gone rest =
          ap (λ (g : Bool). list_any equals (cond (not g) (w ∷ filter (isnt_among vs) old) (filter (isnt_among vs) old))) gone
          ∙ rest ∙ sym (ap (λ (b : Bool). (b || list_any equals old) && not (list_any equals vs)) is)
      by false is false stays rest =
          ap (λ (g : Bool). list_any equals (cond (not g) (w ∷ filter (isnt_among vs) old) (filter (isnt_among vs) old))) stays
          ∙ ap (λ (b : Bool). b || list_any equals (filter (isnt_among vs) old)) is
          ∙ rest ∙ sym (ap (λ (b : Bool). (b || list_any equals old) && not (list_any equals vs)) is)

  there_told : (op : Op) (old vs : List (List ℕ)) → has_equal types t v (values_with types t op old vs) ≡ is_there op (list_any equals old) (list_any equals vs)
  there_told ops.Add old vs = list_any-append equals old vs
  there_told ops.Delete old vs = delete_told vs old
  there_told ops.Replace old vs = refl

  pub equal_told : (op : Op) (es : List EntryAttribute) (come : List Value) (n : List ℕ) → IsMade types es → AreNormal types t come → n ≡ norm_at types t v
      → has_equal types t v (values_with types t op (values_of (attributes_of es) t) (raws come)) ≡ is_there op (has_norm n (values_of es t)) (has_norm n come)
  equal_told op es come n made normal is =
      there_told op (values_of (attributes_of es) t) (raws come)
      ∙ ap (λ (b : Bool). is_there op b (list_any equals (raws come))) (equal_stored types t v n es made is)
      ∙ ap (is_there op (has_norm n (values_of es t))) (ap (λ (k : List ℕ). list_any (λ w. bytes_eq (norm_at types t w) k) (raws come)) (sym is) ∙ sym (any_norm types t n come normal))

-- ---- one more value is looked at

module _ (types : List AttributeType) (t : ℕ) (old : List Value) (values : List (List ℕ)) (i : ℕ) (v : List ℕ) (at : slice_get values i ≡ Some v) where
  pub one_looked : (before after : ChangedValues) (value : Value) → KeepsValues types t old (take i values) before → value ≡ record { raw = v; norm = norm_at types t v } → after.before ≡ before.before
      → HasNormsOf after.seen after.come → after.come ≡ before.come ++ value ∷ [] → KeepsValues types t old (take (suc i) values) after
  one_looked before after value kept is same seen come = record {
    before = record { each = λ n. subst (λ norms. contains (slice_cmp nat_cmp) norms n ≡ has_norm n old) (sym same) (kept.before.each n) };
    seen = seen;
    come_are =
        ap raws come ∙ map-append (λ (x : Value). x.raw) before.come (value ∷ []) ∙ ap (λ (ws : List (List ℕ)). ws ++ value.raw ∷ []) kept.come_are
        ∙ ap (λ (x : Value). take i values ++ x.raw ∷ []) is ∙ sym (take_one_more values i v at);
    normal = subst (AreNormal types t) (sym come) (all_push (λ (x : Value). x.norm ≡ norm_at types t x.raw) before.come value kept.normal (subst (λ (x : Value). x.norm ≡ norm_at types t x.raw) (sym is) refl));
  }

-- ---- the values behind a block

module _ (types : List AttributeType) (t : ℕ) where
  all_filtered : {X : Type 0} (P : X → Type 0) (p : X → Bool) (xs : List X) → AllByRecursion P xs → AllByRecursion P (filter p xs)
  all_filtered P p [] h = tt
  all_filtered {X} P p (x ∷ xs) h = elim (p x) as (λ b. AllByRecursion P (cond b (x ∷ filter p xs) (filter p xs))) [ true ↦ (h.0, all_filtered P p xs h.1) | false ↦ all_filtered P p xs h.1 ]

  pub normal_after : (op : Op) (old come : List Value) → AreNormal types t old → AreNormal types t come → AreNormal types t (changed_values op old come)
  normal_after ops.Add old come h g = all_both (λ (x : Value). x.norm ≡ norm_at types t x.raw) old come h g
  normal_after ops.Delete old [] h g = tt
  normal_after ops.Delete old (v ∷ vs) h g = all_filtered (λ (x : Value). x.norm ≡ norm_at types t x.raw) (λ w. not (has_norm w.norm (v ∷ vs))) old h
  normal_after ops.Replace old come h g = g

  any_turned : (w : List ℕ) (vs : List (List ℕ)) → list_any (λ u. are_equal types t u w) vs ≡ list_any (are_equal types t w) vs
  any_turned w [] = refl
  any_turned w (u ∷ vs) = ap (λ (b : Bool). b || list_any (λ x. are_equal types t x w) vs) ((equal_equiv types t).symm u w) ∙ ap (λ (b : Bool). are_equal types t w u || b) (any_turned w vs)

  left_are : (come old : List Value) → AreNormal types t come → AreNormal types t old
      → raws (filter (λ w. not (has_norm w.norm come)) old) ≡ filter (λ w. not (list_any (are_equal types t w) (raws come))) (raws old)
  left_are come [] g h = refl
  left_are come (w ∷ old) g h =
      by (has_norm w.norm come) (list_any (are_equal types t w.raw) (raws come)) same (left_are come old g h.1)
    where
      same : has_norm w.norm come ≡ list_any (are_equal types t w.raw) (raws come)
      same = any_norm types t w.norm come g ∙ ap (λ (n : List ℕ). list_any (λ u. bytes_eq (norm_at types t u) n) (raws come)) h.0 ∙ any_turned w.raw (raws come)

      by : (a b : Bool) → a ≡ b → raws (filter (λ x. not (has_norm x.norm come)) old) ≡ filter (λ x. not (list_any (are_equal types t x) (raws come))) (raws old)
          → raws (cond (not a) (w ∷ filter (λ x. not (has_norm x.norm come)) old) (filter (λ x. not (has_norm x.norm come)) old))
          ≡ cond (not b) (w.raw ∷ filter (λ x. not (list_any (are_equal types t x) (raws come))) (raws old)) (filter (λ x. not (list_any (are_equal types t x) (raws come))) (raws old))
      by true true is rest = rest
      by false false is rest = ap (λ (xs : List (List ℕ)). w.raw ∷ xs) rest
      by true false is rest = absurd cc
      by false true is rest = absurd cc

  pub values_are : (op : Op) (old come : List Value) → AreNormal types t old → AreNormal types t come → raws (changed_values op old come) ≡ values_after types t op (raws old) (raws come)
  values_are ops.Add old come h g = map-append (λ (x : Value). x.raw) old come
  values_are ops.Delete old [] h g = refl
  values_are ops.Delete old (v ∷ vs) h g = left_are (v ∷ vs) old g h
  values_are ops.Replace old come h g = refl

-- ---- as calls know them

pub value_at : (values same : List (List ℕ)) (i : ℕ) (v : List ℕ) → same ≡ values → i < length values → v ≡ get_or same i v → slice_get values i ≡ Some v
value_at values same i v is lt there = at_place values i v lt (there ∙ ap (λ (vs : List (List ℕ)). get_or vs i v) is)

pub found_by : (types : List AttributeType) (attrs : Attributes) (m : Mod) (i : ℕ) (o p : Option ValueFlaw) → o ≡ p → FindsFirst (HasValueFlaw types attrs m i) value_order p → FindsFirst (HasValueFlaw types attrs m i) value_order o
found_by types attrs m i o p is h = subst (FindsFirst (HasValueFlaw types attrs m i) value_order) (sym is) h

abbrev pub as_value : List AttributeType → ℕ → List ℕ → Value
as_value types t raw = record { raw = raw; norm = norm_at types t raw }

pub both_none : {W E : Type 0} (x : Result (Option W) E) (P Q R : Type 0) → (P → Q → R) → IfOk x (λ o. IfNone o P) → IfOk x (λ o. IfNone o Q) → IfOk x (λ o. IfNone o R)
both_none (Ok None) P Q R f h k = f h k
both_none (Ok (Some why)) P Q R f h k = h
both_none (Err e) P Q R f h k = h

-- behind a block whose values are all looked at
module _ (types : List AttributeType) (es new : List EntryAttribute) (m : Mod) (t : ℕ) (known : type_of types m.attr ≡ Some t) (made : IsMade types es) (below : t < length types)
    (changed : ChangedValues) (kept : KeepsValues types t (values_of es t) m.values changed) (values : List Value) (are : values ≡ changed_values m.op (values_of es t) changed.come)
    (set : new ≡ set_values es t values) where
  old_normal : AreNormal types t (values_of es t)
  old_normal = normal_values types t es made.each

  pub made_after : IsMade types new
  made_after = subst (IsMade types) (sym set) (made_set t types es values made below (subst (AreNormal types t) (sym are) (normal_after types t m.op (values_of es t) changed.come old_normal kept.normal)))

  pub attributes_after : attributes_of new ≡ after_block types (attributes_of es) m
  attributes_after =
      ap attributes_of set ∙ raws_set t es values
      ∙ ap (λ (vs : List (List ℕ)). set_values (attributes_of es) t vs)
      (ap raws are ∙ values_are types t m.op (values_of es t) changed.come old_normal kept.normal
      ∙ ap (values_after types t m.op (raws (values_of es t))) kept.come_are
      ∙ ap (λ (vs : List (List ℕ)). values_after types t m.op vs m.values) (sym (values_raw types t es)))
      ∙ ap (with_block types (attributes_of es) m) (sym known)

pub kept_where_none : {W : Type 0} (P : Type 0) (o : Option W) → o ≡ None → IfNone o P → P
kept_where_none {W} P o is h = subst (λ (x : Option W). IfNone x P) is h
