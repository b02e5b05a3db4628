-- The values of a type that stay, and those that are new, as sets.
use Rattle.std.proofs.Common.{◌≡◌, ℕ, suc, Bool, true, false, cond, not, List, [], ◌∷◌, ◌++◌, length, refl, sym, ap, ◌∙◌, inl, inr, arith}
use Rattle.std.specs.Prelude.{nat_le, nat_lt, ◌||◌, filter}
use Rattle.std.specs.List.{AllByRecursion, IsDistinct, list_any}
use Rattle.std.specs.Str.{bytes_eq}
use Rattle.std.proofs.lemmas.Bool.{or_cases, or_left, or_right, or_parts, not-true}
use Rattle.std.proofs.lemmas.Bool.Decides.{nat_tests}
use Rattle.std.proofs.lemmas.Cmp.{nat_list_eq_equiv}
use Rattle.std.proofs.lemmas.List.{append-nil}
use Rattle.std.proofs.lemmas.List.Folds.{list_any-append}
use Rattle.values.specs.declared.types.AttributeType.{AttributeType}
use Rattle.schema.specs.Values.{are_equal, norm_at, is_valid_at}
use Rattle.entries.specs.Entries.{has_equal, IsAttribute}
use Rattle.entries.proofs.StaysGood.{all_kept}
use Rattle.differences.specs.EntryChanges.{Values}
use Rattle.differences.specs.AsSets.{equal_to_some, equal_to_none, settled_values}
use Rattle.differences.proofs.Parted.{all_pass}
use Rattle.differences.proofs.ValueLists.{bytes_same}

-- ---- lists

pub any_where : {X : Type 0} (p q : X → Bool) → ((x : X) → p x ≡ true → q x ≡ true) → (xs : List X) → list_any p xs ≡ true → list_any p (filter q xs) ≡ true
any_where p q pass [] h = absurd cc
any_where p q pass (x ∷ xs) h = by (q x) (p x) refl refl h (any_where p q pass xs)
  where
    by : (c d : Bool) → q x ≡ c → p x ≡ d → (d || list_any p xs) ≡ true → (list_any p xs ≡ true → list_any p (filter q xs) ≡ true) → list_any p (cond c (x ∷ filter q xs) (filter q xs)) ≡ true
    by true true e f said rest = ap (λ b. b || list_any p (filter q xs)) f
    by true false e f said rest = or_right (p x) (list_any p (filter q xs)) (rest said)
    by false true e f said rest = absurd (let k = sym (pass x f) ∙ e in cc)
    by false false e f said rest = rest said

pub all_join : {X : Type 0} (P : X → Type 0) (xs ys : List X) → AllByRecursion P xs → AllByRecursion P ys → AllByRecursion P (xs ++ ys)
all_join P [] ys h g = g
all_join P (x ∷ xs) ys h g = (h.0, all_join P xs ys h.1 g)

-- one that passes, with what holds of each
pub any_holds : {X : Type 0} (p : X → Bool) (P : X → Type 0) (xs : List X) → AllByRecursion P xs → list_any p xs ≡ true → (x : X) × (p x ≡ true) × P x
any_holds p P [] h is = absurd cc
any_holds p P (x ∷ xs) h is = elim (or_cases (p x) (list_any p xs) is) [
  | inl here ↦ (x, here, h.0)
  | inr later ↦ any_holds p P xs h.1 later
]

pub all_weaken : {X : Type 0} (P Q : X → Type 0) → ((x : X) → P x → Q x) → (xs : List X) → AllByRecursion P xs → AllByRecursion Q xs
all_weaken P Q to [] h = tt
all_weaken P Q to (x ∷ xs) h = (to x h.0, all_weaken P Q to xs h.1)

is_positive : (n : ℕ) → nat_lt 0 (suc n) ≡ true
is_positive n = grind (arith, nat_tests)

is_above_one : (n : ℕ) → nat_le (suc (suc n)) 1 ≡ false
is_above_one n = grind (arith, nat_tests)

-- ---- values

module _ (types : List AttributeType) (t : ℕ) where
  abbrev eq : List ℕ → List ℕ → Bool
  eq = are_equal types t

  equal_itself : (v : List ℕ) → eq v v ≡ true
  equal_itself v = nat_list_eq_equiv.refl (norm_at types t v)

  -- equal values are equal to the same
  pub equal_same : (v w : List ℕ) → eq v w ≡ true → (vs : Values) → has_equal types t v vs ≡ has_equal types t w vs
  equal_same v w same vs = ap (λ n. list_any (λ u. bytes_eq (norm_at types t u) n) vs) (bytes_same (norm_at types t v) (norm_at types t w) same)

  -- each of the values has an equal one among themselves
  each_from : (all vs : Values) → AllByRecursion (λ v. has_equal types t v all ≡ true) vs → (u : List ℕ) → AllByRecursion (λ v. has_equal types t v (u ∷ all) ≡ true) vs
  each_from all [] h u = tt
  each_from all (v ∷ vs) h u = (or_right (eq u v) (has_equal types t v all) h.0, each_from all vs h.1 u)

  pub each_itself : (vs : Values) → AllByRecursion (λ v. has_equal types t v vs ≡ true) vs
  each_itself [] = tt
  each_itself (v ∷ vs) = (or_left (eq v v) (has_equal types t v vs) (equal_itself v), each_from vs vs (each_itself vs) v)

  -- ---- what is settled

  module _ (vs ws : Values) where
    abbrev settled : Values
    settled = settled_values types t vs ws

    -- what has an equal one among those that are to be there has one among the settled
    pub is_covered : (v : List ℕ) → has_equal types t v ws ≡ true → has_equal types t v settled ≡ true
    is_covered v there =
        list_any-append (λ u. eq u v) (equal_to_some types t ws vs) (equal_to_none types t vs ws) ∙ by (has_equal types t v vs) refl
      where
        by : (c : Bool) → has_equal types t v vs ≡ c → (has_equal types t v (equal_to_some types t ws vs) || has_equal types t v (equal_to_none types t vs ws)) ≡ true
        by true old =
            or_left (has_equal types t v (equal_to_some types t ws vs)) (has_equal types t v (equal_to_none types t vs ws))
            (any_where (λ u. eq u v) (λ u. has_equal types t u ws) (λ u same. equal_same u v same ws ∙ there) vs old)
        by false new =
            or_right (has_equal types t v (equal_to_some types t ws vs)) (has_equal types t v (equal_to_none types t vs ws))
            (any_where (λ u. eq u v) (λ u. not (has_equal types t u vs)) (λ u same. ap not (equal_same u v same vs ∙ new)) ws there)

    -- and each of the settled has an equal one among those that are to be there
    pub each_wanted : AllByRecursion (λ v. has_equal types t v ws ≡ true) settled
    each_wanted =
        all_join (λ v. has_equal types t v ws ≡ true) (equal_to_some types t ws vs) (equal_to_none types t vs ws)
        (all_pass (λ v. has_equal types t v ws) vs)
        (all_kept (λ v. has_equal types t v ws ≡ true) (λ v. not (has_equal types t v vs)) ws (each_itself ws))

    -- ---- none equals another

    apart_where : (q : List ℕ → Bool) (us : Values) → IsDistinct eq us → IsDistinct eq (filter q us)
    unfolding IsDistinct
    apart_where q [] h = tt
    apart_where q (u ∷ us) h = by (q u) (apart_where q us h.1)
      where
        by : (c : Bool) → IsDistinct eq (filter q us) → IsDistinct eq (cond c (u ∷ filter q us) (filter q us))
        by true rest = (all_kept (λ v. eq u v ≡ false) q us h.0, rest)
        by false rest = rest

    apart_both : (q : List ℕ → Bool) (us new : Values) → IsDistinct eq us → IsDistinct eq new → AllByRecursion (λ v. has_equal types t v us ≡ false) new → IsDistinct eq (filter q us ++ new)
    unfolding IsDistinct
    apart_both q [] new h g other = g
    apart_both q (u ∷ us) new h g other =
        by (q u) (apart_both q us new h.1 g (all_weaken (λ v. has_equal types t v (u ∷ us) ≡ false) (λ v. has_equal types t v us ≡ false) (λ v none. (or_parts (eq u v) (has_equal types t v us) none).1) new other))
      where
        by : (c : Bool) → IsDistinct eq (filter q us ++ new) → IsDistinct eq (cond c (u ∷ filter q us) (filter q us) ++ new)
        by true rest = (
          all_join (λ v. eq u v ≡ false) (filter q us) new (all_kept (λ v. eq u v ≡ false) q us h.0)
              (all_weaken (λ v. has_equal types t v (u ∷ us) ≡ false) (λ v. eq u v ≡ false) (λ v none. (or_parts (eq u v) (has_equal types t v us) none).0) new other),
          rest,
        )
        by false rest = rest

    pub are_apart : IsDistinct eq vs → IsDistinct eq ws → IsDistinct eq settled
    are_apart h g =
        apart_both (λ v. has_equal types t v ws) vs (equal_to_none types t vs ws) h (apart_where (λ v. not (has_equal types t v vs)) ws g)
        (all_weaken (λ v. not (has_equal types t v vs) ≡ true) (λ v. has_equal types t v vs ≡ false) (λ v. not-true (has_equal types t v vs)) (equal_to_none types t vs ws) (all_pass (λ v. not (has_equal types t v vs)) ws))

    -- ---- how many

    pub some_settled : nat_lt 0 (length ws) ≡ true → nat_lt 0 (length settled) ≡ true
    some_settled some = by ws refl some
      where
        by : (us : Values) → ws ≡ us → nat_lt 0 (length us) ≡ true → nat_lt 0 (length settled) ≡ true
        by [] is said = absurd cc
        by (w ∷ us) is said = one settled (is_covered w (ap (has_equal types t w) is ∙ or_left (eq w w) (has_equal types t w us) (equal_itself w)))
          where
            one : (xs : Values) → has_equal types t w xs ≡ true → nat_lt 0 (length xs) ≡ true
            one [] there = absurd cc
            one (x ∷ xs) there = is_positive (length xs)

  -- values of which none equals another, and each equals the only one of others, are one at most
  pub one_at_most : (xs ws : Values) → IsDistinct eq xs → AllByRecursion (λ v. has_equal types t v ws ≡ true) xs → nat_le (length ws) 1 ≡ true → nat_le (length xs) 1 ≡ true
  unfolding IsDistinct
  one_at_most [] ws h g few = refl
  one_at_most (x ∷ []) ws h g few = refl
  one_at_most (x ∷ y ∷ xs) [] h g few = absurd (let k = g.0 in cc)
  one_at_most (x ∷ y ∷ xs) (w ∷ v ∷ ws) h g few = absurd (let k = sym (is_above_one (length ws)) ∙ few in cc)
  one_at_most (x ∷ y ∷ xs) (w ∷ []) h g few =
      absurd (let first : eq w x ≡ true = only (eq w x) g.0 in let second : eq w y ≡ true = only (eq w y) g.1.0 in
      let same : eq x y ≡ true = ap (λ n. bytes_eq n (norm_at types t y)) (sym (bytes_same (norm_at types t w) (norm_at types t x) first)) ∙ second in
      let k = sym same ∙ h.0.0 in cc)
    where
      only : (b : Bool) → (b || false) ≡ true → b ≡ true
      only true is = refl
      only false is = is

  -- ---- an attribute that is settled is good

  pub attribute_settled : (vs ws : Values) → IsAttribute types (t, vs) → IsAttribute types (t, ws) → IsAttribute types (t, settled_values types t vs ws)
  attribute_settled vs ws h g = record {
    known = h.known;
    some = some_settled vs ws g.some;
    values =
        all_join (λ v. is_valid_at types t v ≡ true) (equal_to_some types t ws vs) (equal_to_none types t vs ws)
        (all_kept (λ v. is_valid_at types t v ≡ true) (λ v. has_equal types t v ws) vs h.values)
        (all_kept (λ v. is_valid_at types t v ≡ true) (λ v. not (has_equal types t v vs)) ws g.values);
    apart = are_apart vs ws h.apart g.apart;
  }

  -- values settled by themselves stay as they are
  pub settled_itself : (vs : Values) → settled_values types t vs vs ≡ vs
  settled_itself vs =
      (λ i. all_stay (λ v. has_equal types t v vs) vs (each_itself vs) i ++ none_stays (λ v. not (has_equal types t v vs)) vs (all_weaken (λ v. has_equal types t v vs ≡ true) (λ v. not (has_equal types t v vs) ≡ false) (λ v is. ap not is) vs (each_itself vs)) i)
      ∙ append-nil vs
    where
      all_stay : (q : List ℕ → Bool) (us : Values) → AllByRecursion (λ u. q u ≡ true) us → filter q us ≡ us
      all_stay q [] h = refl
      all_stay q (u ∷ us) h = λ i. cond (h.0 i) (u ∷ all_stay q us h.1 i) (all_stay q us h.1 i)

      none_stays : (q : List ℕ → Bool) (us : Values) → AllByRecursion (λ u. q u ≡ false) us → filter q us ≡ []
      none_stays q [] h = refl
      none_stays q (u ∷ us) h = λ i. cond (h.0 i) (u ∷ none_stays q us h.1 i) (none_stays q us h.1 i)
