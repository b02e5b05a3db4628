-- Attributes after the values of one type were set.
use Rattle.std.proofs.Common.{◌≡◌, ℕ, true, false, cond, List, [], ◌∷◌, ◌++◌, length, Option, Some, None, refl, sym, ap, subst, ◌∙◌, arith}
use Rattle.std.specs.Prelude.{nat_eq, unwrap_or}
use Rattle.std.specs.List.{AllByRecursion, IsDistinct}
use Rattle.std.specs.Map.{lookup, keys_of}
use Rattle.std.proofs.lemmas.Bool.{eqb-true, lt-ltb}
use Rattle.std.proofs.lemmas.Cmp.{nat_eq_equiv}
use Rattle.std.proofs.lemmas.List.{append-nil}
use Rattle.values.specs.declared.types.AttributeType.{AttributeType}
use Rattle.values.specs.Types.{is_known}
use Rattle.schema.specs.Values.{is_valid_at, are_equal}
use Rattle.entries.specs.Entries.{Attributes, values_of, IsAttribute}
use Rattle.entries.specs.Modifies.{attribute, set_values}
use Rattle.values.specs.Values.{Value}
use Rattle.entries.specs.StoredEntries.{EntryAttribute}
use Rattle.entries.specs.inner.ValuesDrafts.{put_back, IsTaken}
use Rattle.entries.proofs.Pushed.{AreGood}

-- values that an attribute of this type can have, or none
pub record AreValues (types : List AttributeType) (t : ℕ) (vs : List (List ℕ)) : Type 0 where
  pub known : is_known types t ≡ true
  pub values : AllByRecursion (λ v. is_valid_at types t v ≡ true) vs
  pub apart : IsDistinct (are_equal types t) vs

pub all_both : {X : Type 0} (P : X → Type 0) (xs ys : List X) → AllByRecursion P xs → AllByRecursion P ys → AllByRecursion P (xs ++ ys)
all_both P [] ys h g = g
all_both P (x ∷ xs) ys h g = (h.0, all_both P xs ys h.1 g)

module _ (types : List AttributeType) where
  one_good : (t : ℕ) (vs : List (List ℕ)) → AreValues types t vs → AllByRecursion (IsAttribute types) (attribute t vs)
  one_good t [] h = tt
  one_good t (v ∷ vs) h = (record { known = h.known; some = lt-ltb 0 (length (v ∷ vs)) (omega arith); values = h.values; apart = h.apart }, tt)

  all_set : (t : ℕ) (vs : List (List ℕ)) (attrs : Attributes) → AreValues types t vs → AllByRecursion (IsAttribute types) attrs → AllByRecursion (IsAttribute types) (set_values attrs t vs)
  unfolding set_values
  all_set t vs [] is h = one_good t vs is
  all_set t vs (a ∷ more) is h =
      elim (nat_eq t a.0) as (λ b. nat_eq t a.0 ≡ b → AllByRecursion (IsAttribute types) (cond b (attribute a.0 vs ++ more) (a ∷ set_values more t vs))) [
        | true ↦ λ e. all_both (IsAttribute types) (attribute a.0 vs) more (one_good a.0 vs (subst (λ k. AreValues types k vs) (eqb-true t a.0 e) is)) h.1
        | false ↦ λ e. (h.0, all_set t vs more is h.1)
      ] refl

module _ {X : Type 0} where
  front_keys : (P : ℕ → Type 0) (k : ℕ) (vs : List X) (more : List (ℕ × List X)) → P k → AllByRecursion P (keys_of more) → AllByRecursion P (keys_of (attribute k vs ++ more))
  front_keys P k [] more g h = h
  front_keys P k (v ∷ vs) more g h = (g, h)

  front_apart : (k : ℕ) (vs : List X) (more : List (ℕ × List X)) → AllByRecursion (λ u. nat_eq k u ≡ false) (keys_of more) → IsDistinct nat_eq (keys_of more) → IsDistinct nat_eq (keys_of (attribute k vs ++ more))
  unfolding IsDistinct
  front_apart k [] more g h = h
  front_apart k (v ∷ vs) more g h = (g, h)

  keys_set : (P : ℕ → Type 0) (t : ℕ) (vs : List X) (attrs : List (ℕ × List X)) → P t → AllByRecursion P (keys_of attrs) → AllByRecursion P (keys_of (set_values attrs t vs))
  unfolding set_values
  keys_set P t [] [] g h = tt
  keys_set P t (v ∷ vs) [] g h = (g, tt)
  keys_set P t vs (a ∷ more) g h =
      elim (nat_eq t a.0) as (λ b. AllByRecursion P (keys_of (cond b (attribute a.0 vs ++ more) (a ∷ set_values more t vs)))) [
        | true ↦ front_keys P a.0 vs more h.0 h.1
        | false ↦ (h.0, keys_set P t vs more g h.1)
      ]

  types_set : (t : ℕ) (vs : List X) (attrs : List (ℕ × List X)) → IsDistinct nat_eq (keys_of attrs) → IsDistinct nat_eq (keys_of (set_values attrs t vs))
  unfolding set_values IsDistinct
  types_set t [] [] h = tt
  types_set t (v ∷ vs) [] h = (tt, tt)
  types_set t vs (a ∷ more) h =
      elim (nat_eq t a.0) as (λ b. nat_eq t a.0 ≡ b → IsDistinct nat_eq (keys_of (cond b (attribute a.0 vs ++ more) (a ∷ set_values more t vs)))) [
        | true ↦ λ e. front_apart a.0 vs more h.0 h.1
        | false ↦ λ e. (keys_set (λ k. nat_eq a.0 k ≡ false) t vs more (nat_eq_equiv.symm a.0 t ∙ e) h.0, types_set t vs more h.1)
      ] refl

  abbrev values_in : Option (List X) → List X
  values_in o = unwrap_or o []

  none_there : (u k : ℕ) (more : List (ℕ × List X)) → nat_eq u k ≡ true → AllByRecursion (λ j. nat_eq k j ≡ false) (keys_of more) → lookup (nat_eq u) more ≡ None
  none_there u k [] e h = refl
  none_there u k (a ∷ more) e h =
      ap (λ b. cond b (Some a.1) (lookup (nat_eq u) more)) (ap (λ j. nat_eq j a.0) (eqb-true u k e) ∙ h.0) ∙ none_there u k more e h.1

  -- set where none of the type follows
  front_set : (k : ℕ) (vs old : List X) (more : List (ℕ × List X)) (u : ℕ) → AllByRecursion (λ j. nat_eq k j ≡ false) (keys_of more) → values_of (attribute k vs ++ more) u ≡ cond (nat_eq u k) vs (values_of ((k, old) ∷ more) u)
  front_set k [] old more u apart = elim (nat_eq u k) as (λ b. nat_eq u k ≡ b → values_of more u ≡ cond b [] (unwrap_or (cond b (Some old) (lookup (nat_eq u) more)) [])) [
    | true ↦ λ e. ap values_in (none_there u k more e apart)
    | false ↦ λ e. refl
  ] refl
  front_set k (v ∷ vs) old more u apart = elim (nat_eq u k) as (λ b. unwrap_or (cond b (Some (v ∷ vs)) (lookup (nat_eq u) more)) [] ≡ cond b (v ∷ vs) (unwrap_or (cond b (Some old) (lookup (nat_eq u) more)) [])) [ true ↦ refl | false ↦ refl ]

  -- the values of each type after the values of one were set
  pub values_set : (t : ℕ) (vs : List X) (attrs : List (ℕ × List X)) (u : ℕ) → IsDistinct nat_eq (keys_of attrs) → values_of (set_values attrs t vs) u ≡ cond (nat_eq u t) vs (values_of attrs u)
  unfolding set_values IsDistinct
  values_set t [] [] u h = elim (nat_eq u t) as (λ b. values_in None ≡ cond b [] []) [ true ↦ refl | false ↦ refl ]
  values_set t (v ∷ vs) [] u h = elim (nat_eq u t) as (λ b. values_in (cond b (Some (v ∷ vs)) None) ≡ cond b (v ∷ vs) []) [ true ↦ refl | false ↦ refl ]
  values_set t vs (a ∷ more) u h =
      elim (nat_eq t a.0) as (λ b. nat_eq t a.0 ≡ b → values_of (cond b (attribute a.0 vs ++ more) (a ∷ set_values more t vs)) u ≡ cond (nat_eq u t) vs (values_of (a ∷ more) u)) [
        | true ↦ λ e. front_set a.0 vs a.1 more u h.0 ∙ ap (λ k. cond (nat_eq u k) vs (values_of (a ∷ more) u)) (sym (eqb-true t a.0 e))
        | false ↦ λ e.
            elim (nat_eq u a.0) as (λ b. nat_eq u a.0 ≡ b → values_in (cond b (Some a.1) (lookup (nat_eq u) (set_values more t vs))) ≡ cond (nat_eq u t) vs (values_in (cond b (Some a.1) (lookup (nat_eq u) more)))) [
              | true ↦ λ ua. ap (λ b. cond b vs a.1) (sym (ap (λ k. nat_eq k t) (eqb-true u a.0 ua) ∙ nat_eq_equiv.symm a.0 t ∙ e))
              | false ↦ λ ua. values_set t vs more u h.1
            ] refl
      ] refl

-- ---- values set twice

module _ {X : Type 0} (t : ℕ) where
  pub set_none : (attrs : List (ℕ × List X)) → lookup (nat_eq t) attrs ≡ None → set_values attrs t [] ≡ attrs
  unfolding set_values
  set_none [] none = refl
  set_none (a ∷ more) none = elim (nat_eq t a.0) as (λ b. cond b (Some a.1) (lookup (nat_eq t) more) ≡ None → cond b (attribute a.0 [] ++ more) (a ∷ set_values more t []) ≡ a ∷ more) [
    | true ↦ λ is. absurd cc
    | false ↦ λ is. ap (λ (xs : List (ℕ × List X)). a ∷ xs) (set_none more is)
  ] none

  some_over : (attrs : List (ℕ × List X)) (w : X) (ws vs : List X) → set_values (set_values attrs t (w ∷ ws)) t vs ≡ set_values attrs t vs
  unfolding set_values
  some_over [] w ws vs = ap (λ b. cond b (attribute t vs ++ []) ((t, w ∷ ws) ∷ attribute t vs)) (nat_eq_equiv.refl t) ∙ append-nil (attribute t vs)
  some_over (a ∷ more) w ws vs = elim (nat_eq t a.0) as (λ b. nat_eq t a.0 ≡ b → set_values (cond b ((a.0, w ∷ ws) ∷ more) (a ∷ set_values more t (w ∷ ws))) t vs ≡ cond b (attribute a.0 vs ++ more) (a ∷ set_values more t vs)) [
    | true ↦ λ is. ap (λ b. cond b (attribute a.0 vs ++ more) ((a.0, w ∷ ws) ∷ set_values more t vs)) is
    | false ↦ λ is. ap (λ b. cond b (attribute a.0 vs ++ set_values more t (w ∷ ws)) (a ∷ set_values (set_values more t (w ∷ ws)) t vs)) is ∙ ap (λ (xs : List (ℕ × List X)). a ∷ xs) (some_over more w ws vs)
  ] refl

  some_found : (attrs : List (ℕ × List X)) (w : X) (ws : List X) → lookup (nat_eq t) (set_values attrs t (w ∷ ws)) ≡ Some (w ∷ ws)
  unfolding set_values
  some_found [] w ws = ap (λ b. cond b (Some (w ∷ ws)) None) (nat_eq_equiv.refl t)
  some_found (a ∷ more) w ws = elim (nat_eq t a.0) as (λ b. nat_eq t a.0 ≡ b → lookup (nat_eq t) (cond b ((a.0, w ∷ ws) ∷ more) (a ∷ set_values more t (w ∷ ws))) ≡ Some (w ∷ ws)) [
    | true ↦ λ is. ap (λ b. cond b (Some (w ∷ ws)) (lookup (nat_eq t) more)) is
    | false ↦ λ is. ap (λ b. cond b (Some a.1) (lookup (nat_eq t) (set_values more t (w ∷ ws)))) is ∙ some_found more w ws
  ] refl

  -- where a type without values has no place, the last values that are set are those that count
  pub set_over : (attrs : List (ℕ × List X)) (ws vs : List X) → (ws ≡ [] → lookup (nat_eq t) attrs ≡ None) → set_values (set_values attrs t ws) t vs ≡ set_values attrs t vs
  set_over attrs [] vs none = ap (λ (xs : List (ℕ × List X)). set_values xs t vs) (set_none attrs (none refl))
  set_over attrs (w ∷ ws) vs none = some_over attrs w ws vs

  pub values_over : (attrs : List (ℕ × List X)) (ws : List X) → (ws ≡ [] → lookup (nat_eq t) attrs ≡ None) → values_of (set_values attrs t ws) t ≡ ws
  values_over attrs [] none = ap (λ (xs : List (ℕ × List X)). values_of xs t) (set_none attrs (none refl)) ∙ ap (λ (o : Option (List X)). unwrap_or o []) (none refl)
  values_over attrs (w ∷ ws) none = ap (λ (o : Option (List X)). unwrap_or o []) (some_found attrs w ws)

-- what was taken out counts as if it were back
pub values_taken : (attrs : List EntryAttribute) (taken : Option EntryAttribute) (a : EntryAttribute) (t : ℕ) → ◌≡◌ {A = Option EntryAttribute} taken (Some a) → nat_eq a.0 t ≡ true → IsTaken attrs taken → a.1 ≡ values_of (put_back attrs taken) t
values_taken attrs taken a t is same none =
    sym (values_over a.0 attrs a.1 (subst (IsTaken attrs) is none))
    ∙ (λ i. values_of (put_back attrs (sym is i)) (eqb-true a.0 t same i))

pub set_taken : (attrs : List EntryAttribute) (taken : Option EntryAttribute) (a : EntryAttribute) (t : ℕ) (vs : List Value) → ◌≡◌ {A = Option EntryAttribute} taken (Some a) → nat_eq a.0 t ≡ true → IsTaken attrs taken → set_values attrs t vs ≡ set_values (put_back attrs taken) t vs
set_taken attrs taken a t vs is same none =
    ap (λ k. set_values attrs k vs) (sym (eqb-true a.0 t same))
    ∙ sym (set_over a.0 attrs a.1 vs (subst (IsTaken attrs) is none))
    ∙ (λ i. set_values (put_back attrs (sym is i)) (eqb-true a.0 t same i) vs)

pub good_set : (types : List AttributeType) (t : ℕ) (vs : List (List ℕ)) (attrs : Attributes) → AreGood types attrs → AreValues types t vs → AreGood types (set_values attrs t vs)
good_set types t vs attrs h is = record { all = all_set types t vs attrs is h.all; types_apart = types_set t vs attrs h.types_apart }

-- the values of a type of good attributes
pub values_good : (types : List AttributeType) (t : ℕ) (attrs : Attributes) → is_known types t ≡ true → AllByRecursion (IsAttribute types) attrs → AreValues types t (values_of attrs t)
unfolding IsDistinct
values_good types t [] known h = record { known = known; values = tt; apart = tt }
values_good types t (a ∷ more) known h =
    elim (nat_eq t a.0) as (λ b. nat_eq t a.0 ≡ b → AreValues types t (unwrap_or (cond b (Some a.1) (lookup (nat_eq t) more)) [])) [
      | true ↦ λ e. subst (λ k. AreValues types k a.1) (sym (eqb-true t a.0 e)) (record { known = h.0.known; values = h.0.values; apart = h.0.apart })
      | false ↦ λ e. values_good types t more known h.1
    ] refl
