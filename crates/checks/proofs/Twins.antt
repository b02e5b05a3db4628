-- Lists without twins.
use Rattle.std.proofs.Common.{◌≡◌, Bool, true, false, cond, ◌⊎◌, inl, inr, List, [], ◌∷◌, ◌++◌, map, filter, refl, subst}
use Rattle.std.specs.Prelude.{T}
use Rattle.std.specs.List.{Contains, AllByRecursion, IsDistinct}
use Rattle.std.specs.Ordering.{is_lt}
use Rattle.std.specs.declared.cmp.Ordering.{Ordering}
use Rattle.std.specs.declared.cmp.Ordering.TheVariants.{Less, Equal, Greater}
use Rattle.std.specs.FinMap.Entries.{below_all}
use Rattle.std.proofs.lemmas.List.Elements.{All-contains, All-from_recursion, Contains-append_cases}
use Rattle.paths.specs.Paths.{Path, path_cmp}
use Rattle.entries.specs.Entries.{EntryContent}
use Rattle.entries.proofs.StaysGood.{all_kept}
use Rattle.tree.proofs.Views.{split_and}
use Rattle.checks.proofs.Members.{here, later, not_in_none, first_or_later}

module _ {X : Type 0} (E : X → X → Bool) where
  pub all_by : (P : X → Type 0) (xs : List X) → ((x : X) → Contains xs x → P x) → AllByRecursion P xs
  all_by P [] h = tt
  all_by P (x ∷ xs) h = (h x (here x xs), all_by P xs (λ y at. h y (later x y xs at)))

  pub distinct_append : (xs ys : List X) → IsDistinct E xs → IsDistinct E ys → ((x y : X) → Contains xs x → Contains ys y → E x y ≡ false) → IsDistinct E (xs ++ ys)
  unfolding IsDistinct
  distinct_append [] ys dx dy apart = dy
  distinct_append (x ∷ xs) ys dx dy apart = (
    all_by (λ y. E x y ≡ false) (xs ++ ys) (λ y at. by y (Contains-append_cases xs ys y at)),
    distinct_append xs ys dx.1 dy (λ z y at_z at_y. apart z y (later x z xs at_z) at_y),
  )
    where
      by : (y : X) → Contains xs y ⊎ Contains ys y → E x y ≡ false
      by y (inl at) = All-contains (λ z. E x z ≡ false) xs y (All-from_recursion (λ z. E x z ≡ false) xs dx.0) at
      by y (inr at) = apart x y (here x xs) at

  pub distinct_filter : (f : X → Bool) (xs : List X) → IsDistinct E xs → IsDistinct E (filter f xs)
  unfolding IsDistinct
  distinct_filter f [] dx = tt
  distinct_filter f (x ∷ xs) dx = by (f x) (all_kept (λ y. E x y ≡ false) f xs dx.0) (distinct_filter f xs dx.1)
    where
      by : (b : Bool) → AllByRecursion (λ y. E x y ≡ false) (filter f xs) → IsDistinct E (filter f xs) → IsDistinct E (cond b (x ∷ filter f xs) (filter f xs))
      by true first rest = (first, rest)
      by false first rest = rest

pub distinct_map : {X Y : Type 0} (E : Y → Y → Bool) (f : X → Y) (xs : List X) → IsDistinct (λ x y. E (f x) (f y)) xs → IsDistinct E (map f xs)
unfolding IsDistinct
distinct_map E f [] dx = tt
distinct_map {X} {Y} E f (x ∷ xs) dx = (others xs dx.0, distinct_map E f xs dx.1)
  where
    others : (ys : List X) → AllByRecursion (λ y. E (f x) (f y) ≡ false) ys → AllByRecursion (λ y. E (f x) y ≡ false) (map f ys)
    others [] h = tt
    others (y ∷ ys) h = (h.0, others ys h.1)

-- by a test that tells more apart
pub distinct_weaker : {X : Type 0} (E F : X → X → Bool) → ((x y : X) → E x y ≡ false → F x y ≡ false) → (xs : List X) → IsDistinct E xs → IsDistinct F xs
unfolding IsDistinct
distinct_weaker E F weaker [] dx = tt
distinct_weaker {X} E F weaker (x ∷ xs) dx = (others xs dx.0, distinct_weaker E F weaker xs dx.1)
  where
    others : (ys : List X) → AllByRecursion (λ y. E x y ≡ false) ys → AllByRecursion (λ y. F x y ≡ false) ys
    others [] h = tt
    others (y ∷ ys) h = (weaker x y h.0, others ys h.1)

-- what stands behind an entry in the order of paths
pub behind : (p : Path) (xs : List (Path × EntryContent)) (e : Path × EntryContent) → T (below_all path_cmp p xs) → Contains xs e → path_cmp p e.0 ≡ Less
behind p [] e below h = absurd (not_in_none e h)
behind p (x ∷ xs) e below h =
    let both = split_and (is_lt (path_cmp p x.0)) (below_all path_cmp p xs) below in
    elim (first_or_later x e xs h) [
      | inl same ↦ subst (λ (y : Path × EntryContent). path_cmp p y.0 ≡ Less) same (less (path_cmp p x.0) both.0)
      | inr more ↦ behind p xs e both.1 more
    ]
  where
    less : (o : Ordering) → T (is_lt o) → o ≡ Less
    less Less h = refl
    less Equal h = absurd h
    less Greater h = absurd h
