-- Attributes as they are looked up and set.
use Rattle.std.proofs.Common.{◌≡◌, ℕ, zero, suc, ◌+◌, Bool, true, false, cond, ◌||◌, List, [], ◌∷◌, ◌++◌, length, take, drop, slice_set, slice_index_or, Option, Some, None, refl, sym, ap, subst, ◌∙◌, arith}
use Rattle.std.specs.Prelude.{nat_eq}
use Rattle.std.specs.List.{slice_get}
use Rattle.std.specs.Map.{lookup}
use Rattle.std.proofs.lemmas.Bool.{eqb-true}
use Rattle.std.proofs.lemmas.List.{append-nil}
use Rattle.values.specs.Values.{Value}
use Rattle.entries.specs.Entries.{push_value}
use Rattle.entries.specs.Modifies.{attribute, set_values}
use Rattle.entries.specs.StoredEntries.{EntryAttribute}
use Rattle.reasons.specs.inner.Drafts.{has_place, IsPlaceOf}
use Rattle.reasons.proofs.Elements.{only_some}

neither : (a b : Bool) → (a || b) ≡ false → (a ≡ false) × (b ≡ false)
neither true b h = absurd cc
neither false b h = (refl, h)

same_one : (a b : EntryAttribute) → ◌≡◌ {A = Option EntryAttribute} (Some a) (Some b) → a ≡ b
same_one a b h = cc

module _ (t : ℕ) where
  -- where it is
  pub found_there : (es : List EntryAttribute) (i : ℕ) → IsPlaceOf t es (Some i) → (a : EntryAttribute) → slice_get es i ≡ Some a → lookup (nat_eq t) es ≡ Some a.1
  found_there [] i is a there = absurd (let no = is.1 in cc)
  found_there (e ∷ es) zero is a there =
      let same : is.0 ≡ a = only_some (slice_get (e ∷ es) zero) is.0 a is.1 there in
      let here : e ≡ a = same_one e a there in
      ap (λ (b : Bool). cond b (Some e.1) (lookup (nat_eq t) es)) (ap (λ (x : EntryAttribute). nat_eq t x.0) (here ∙ sym same) ∙ is.2) ∙ ap (λ (x : EntryAttribute). Some x.1) here
  found_there (e ∷ es) (suc i) is a there =
      let k = neither (nat_eq t e.0) (has_place t (take i es)) is.3 in
      ap (λ (b : Bool). cond b (Some e.1) (lookup (nat_eq t) es)) k.0 ∙ found_there es i (is.0, is.1, is.2, k.1) a there

  pub found_nowhere : (es : List EntryAttribute) → has_place t es ≡ false → lookup (nat_eq t) es ≡ None
  found_nowhere [] none = refl
  found_nowhere (e ∷ es) none =
      let k = neither (nat_eq t e.0) (has_place t es) none in
      ap (λ (b : Bool). cond b (Some e.1) (lookup (nat_eq t) es)) k.0 ∙ found_nowhere es k.1

  -- these values set
  pub set_there : (vs : List Value) (es : List EntryAttribute) (i : ℕ) → IsPlaceOf t es (Some i) → set_values es t vs ≡ take i es ++ (attribute t vs ++ drop (suc i) es)
  unfolding set_values
  set_there vs [] i is = absurd (let no = is.1 in cc)
  set_there vs (e ∷ es) zero is =
      let here : e ≡ is.0 = same_one e is.0 is.1 in
      let same : nat_eq t e.0 ≡ true = ap (λ (x : EntryAttribute). nat_eq t x.0) here ∙ is.2 in
      ap (λ (b : Bool). cond b (attribute e.0 vs ++ es) (e ∷ set_values es t vs)) same ∙ ap (λ (u : ℕ). attribute u vs ++ es) (sym (eqb-true t e.0 same))
  set_there vs (e ∷ es) (suc i) is =
      let k = neither (nat_eq t e.0) (has_place t (take i es)) is.3 in
      ap (λ (b : Bool). cond b (attribute e.0 vs ++ es) (e ∷ set_values es t vs)) k.0 ∙ ap (λ (xs : List EntryAttribute). e ∷ xs) (set_there vs es i (is.0, is.1, is.2, k.1))

  pub set_last : (vs : List Value) (es : List EntryAttribute) → has_place t es ≡ false → set_values es t vs ≡ es ++ attribute t vs
  unfolding set_values
  set_last vs [] none = refl
  set_last vs (e ∷ es) none =
      let k = neither (nat_eq t e.0) (has_place t es) none in
      ap (λ (b : Bool). cond b (attribute e.0 vs ++ es) (e ∷ set_values es t vs)) k.0 ∙ ap (λ (xs : List EntryAttribute). e ∷ xs) (set_last vs es k.1)

  no_values : (vs : List Value) → nat_eq (length vs) 0 ≡ true → vs ≡ []
  no_values [] e = refl
  no_values (v ∷ vs) e = absurd (let k : length (v ∷ vs) ≡ 0 = eqb-true (length (v ∷ vs)) 0 e in omega arith)

  some_values : (vs : List Value) → nat_eq (length vs) 0 ≡ false → (u : ℕ) → attribute u vs ≡ (u, vs) ∷ []
  some_values [] e u = absurd cc
  some_values (v ∷ vs) e u = refl

  -- as they are written
  pub set_removed : (vs : List Value) (es : List EntryAttribute) (i : ℕ) → IsPlaceOf t es (Some i) → nat_eq (length vs) 0 ≡ true → set_values es t vs ≡ take i es ++ drop (i + 1) es
  set_removed vs es i is e =
      let one : i + 1 ≡ suc i = omega arith in
      ap (set_values es t) (no_values vs e) ∙ set_there [] es i is ∙ ap (λ (n : ℕ). take i es ++ drop n es) (sym one)

  written : (x : EntryAttribute) (es : List EntryAttribute) (i : ℕ) (a : EntryAttribute) → slice_get es i ≡ Some a → slice_set es i x ≡ take i es ++ (x ∷ drop (suc i) es)
  written x [] i a there = absurd cc
  written x (e ∷ es) zero a there = refl
  written x (e ∷ es) (suc i) a there = ap (λ (xs : List EntryAttribute). e ∷ xs) (written x es i a there)

  pub set_written : (vs : List Value) (es : List EntryAttribute) (i : ℕ) → IsPlaceOf t es (Some i) → nat_eq (length vs) 0 ≡ false → slice_set es i (t, vs) ≡ set_values es t vs
  set_written vs es i is e =
      written (t, vs) es i is.0 is.1 ∙ ap (λ (xs : List EntryAttribute). take i es ++ (xs ++ drop (suc i) es)) (sym (some_values vs e t)) ∙ sym (set_there vs es i is)

  pub set_pushed : (vs : List Value) (es : List EntryAttribute) → has_place t es ≡ false → nat_eq (length vs) 0 ≡ false → es ++ (t, vs) ∷ [] ≡ set_values es t vs
  set_pushed vs es none e = ap (λ (xs : List EntryAttribute). es ++ xs) (sym (some_values vs e t)) ∙ sym (set_last vs es none)

  pub set_kept : (vs : List Value) (es : List EntryAttribute) → has_place t es ≡ false → nat_eq (length vs) 0 ≡ true → es ≡ set_values es t vs
  set_kept vs es none e = sym (ap (set_values es t) (no_values vs e) ∙ set_last [] es none ∙ append-nil es)

-- a value more
module _ (t : ℕ) (v : Value) where
  pub push_there : (es : List EntryAttribute) (i : ℕ) (a : EntryAttribute) → IsPlaceOf t es (Some i) → slice_get es i ≡ Some a → slice_set es i (a.0, a.1 ++ v ∷ []) ≡ push_value es t v
  unfolding push_value
  push_there [] i a is at = absurd cc
  push_there (e ∷ es) zero a is at =
      let here : e ≡ a = same_one e a at in
      let same : nat_eq t e.0 ≡ true = ap (λ (x : EntryAttribute). nat_eq t x.0) (same_one e is.0 is.1) ∙ is.2 in
      ap (λ (x : EntryAttribute). (x.0, x.1 ++ v ∷ []) ∷ es) (sym here) ∙ sym (ap (λ (b : Bool). cond b ((e.0, e.1 ++ v ∷ []) ∷ es) (e ∷ push_value es t v)) same)
  push_there (e ∷ es) (suc i) a is at =
      let k = neither (nat_eq t e.0) (has_place t (take i es)) is.3 in
      ap (λ (xs : List EntryAttribute). e ∷ xs) (push_there es i a (is.0, is.1, is.2, k.1) at) ∙ sym (ap (λ (b : Bool). cond b ((e.0, e.1 ++ v ∷ []) ∷ es) (e ∷ push_value es t v)) k.0)

  pub push_last : (es : List EntryAttribute) → has_place t es ≡ false → es ++ (t, v ∷ []) ∷ [] ≡ push_value es t v
  unfolding push_value
  push_last [] none = refl
  push_last (e ∷ es) none =
      let k = neither (nat_eq t e.0) (has_place t es) none in
      ap (λ (xs : List EntryAttribute). e ∷ xs) (push_last es k.1) ∙ sym (ap (λ (b : Bool). cond b ((e.0, e.1 ++ v ∷ []) ∷ es) (e ∷ push_value es t v)) k.0)

-- as calls know them
pub place_is : (t : ℕ) (es : List EntryAttribute) (o p : Option ℕ) → o ≡ p → IsPlaceOf t es o → IsPlaceOf t es p
place_is t es o p is h = subst (IsPlaceOf t es) is h

pub place_in : (t : ℕ) (ds es : List EntryAttribute) (o p : Option ℕ) → ds ≡ es → o ≡ p → IsPlaceOf t ds o → IsPlaceOf t es p
place_in t ds es o p same is h = subst (λ (xs : List EntryAttribute). IsPlaceOf t xs p) same (subst (IsPlaceOf t ds) is h)

pub element_at : (t : ℕ) (es : List EntryAttribute) (i : ℕ) (d : EntryAttribute) → IsPlaceOf t es (Some i) → slice_get es i ≡ Some (slice_index_or es i d)
element_at t es i d is = by es i is.0 is.1
  where
    by : (xs : List EntryAttribute) (j : ℕ) (a : EntryAttribute) → slice_get xs j ≡ Some a → slice_get xs j ≡ Some (slice_index_or xs j d)
    by [] j a there = absurd cc
    by (x ∷ xs) zero a there = refl
    by (x ∷ xs) (suc j) a there = by xs j a there
