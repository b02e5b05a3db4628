-- What stands in lists that are made of others.
use Rattle.std.proofs.Common.{◌≡◌, ◌⊎◌, List, [], ◌∷◌, ◌++◌, inl, inr, map, refl, ap, sym, subst, arith}
use Rattle.std.specs.List.{Contains, AllByRecursion}
use Rattle.std.proofs.lemmas.List.Elements.{Contains-append_right, Contains-append_cases, Contains-push_cases}

module _ {X : Type 0} where
  pub here : (x : X) (xs : List X) → Contains (x ∷ xs) x
  here x xs = (0, omega arith, refl)

  pub later : (x y : X) (xs : List X) → Contains xs y → Contains (x ∷ xs) y
  later x y xs h = Contains-append_right (x ∷ []) xs y h

  pub in_none : (y : X) → Contains [] y → ⊥
  in_none y h = omega (arith, h.1)

  pub first_or_later : (x y : X) (xs : List X) → Contains (x ∷ xs) y → (x ≡ y) ⊎ Contains xs y
  first_or_later x y xs h = elim (Contains-append_cases (x ∷ []) xs y h) [
    | inl one ↦ elim (Contains-push_cases [] x y one) [
      | inl none ↦ absurd (in_none y none)
      | inr is ↦ inl is
    ]
    | inr more ↦ inr more
  ]

  pub only_one : (x y : X) → Contains (x ∷ []) y → x ≡ y
  only_one x y h = elim (first_or_later x y [] h) [ inl is ↦ is | inr more ↦ absurd (in_none y more) ]

module _ {X Y : Type 0} where
  pub in_map : (f : X → Y) (x : X) (xs : List X) → Contains xs x → Contains (map f xs) (f x)
  in_map f x [] h = absurd (in_none x h)
  in_map f x (y ∷ xs) h = elim (first_or_later y x xs h) [
    | inl is ↦ subst (λ z. Contains (z ∷ map f xs) (f x)) (ap f (sym is)) (here (f x) (map f xs))
    | inr more ↦ later (f y) (f x) (map f xs) (in_map f x xs more)
  ]

  pub from_map : (f : X → Y) (y : Y) (xs : List X) → Contains (map f xs) y → (x : X) × Contains xs x × (f x ≡ y)
  from_map f y [] h = absurd (in_none y h)
  from_map f y (x ∷ xs) h = elim (first_or_later (f x) y (map f xs) h) [
    | inl is ↦ (x, here x xs, is)
    | inr more ↦ let rest = from_map f y xs more in (rest.0, later x rest.0 xs rest.1, rest.2)
  ]

-- ---- what holds of each

pub all_more : {X : Type 0} (P : X → Type 0) (xs ys : List X) → AllByRecursion P xs → AllByRecursion P ys → AllByRecursion P (xs ++ ys)
all_more P [] ys h k = k
all_more P (x ∷ xs) ys h k = (h.0, all_more P xs ys h.1 k)

pub one_of_all : {X : Type 0} (P : X → Type 0) (xs : List X) (x : X) → AllByRecursion P xs → Contains xs x → P x
one_of_all P [] x h at = absurd (in_none x at)
one_of_all P (y ∷ ys) x h at = elim (first_or_later y x ys at) [ inl is ↦ subst P is h.0 | inr more ↦ one_of_all P ys x h.1 more ]
