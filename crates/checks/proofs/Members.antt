-- What stands in lists that are made of others.
use Rattle.std.proofs.Common.{◌≡◌, Bool, true, false, cond, List, [], ◌∷◌, ◌⊎◌, inl, inr, map, filter, Some, refl, sym, ap, subst, ◌∙◌, arith}
use Rattle.std.specs.List.{Contains, flat_map}
use Rattle.std.specs.FinMap as finite
use Rattle.std.specs.Ordering.{eq_by_cmp, is_eq}
use Rattle.std.specs.declared.cmp.Ordering.{Ordering}
use Rattle.std.specs.declared.cmp.Ordering.TheVariants.{Less, Equal, Greater}
use Rattle.std.proofs.lemmas.List.Elements.{All-from_recursion, All-contains, Contains-append_left, Contains-append_right, Contains-append_cases, Contains-push_cases}
use Rattle.paths.specs.Paths.{Path, path_cmp}
use Rattle.entries.specs.Entries.{EntryContent}
use Rattle.tree.specs.Directories.{Entries}
use Rattle.tree.proofs.Order.{path_total, path_exact}
use Rattle.tree.proofs.Views.{all_found}

module _ {X : Type 0} where
  pub here : (x : X) (xs : List X) → Contains (x ∷ xs) x
  here x xs = (0, omega arith, refl)

  pub later : (x y : X) (xs : List X) → Contains xs y → Contains (x ∷ xs) y
  later x y xs h = Contains-append_right (x ∷ []) xs y h

  pub not_in_none : (y : X) → Contains [] y → ⊥
  not_in_none y h = omega (arith, h.1)

  pub first_or_later : (x y : X) (xs : List X) → Contains (x ∷ xs) y → (x ≡ y) ⊎ Contains xs y
  first_or_later x y xs h = elim (Contains-append_cases (x ∷ []) xs y h) [
    | inl one ↦ elim (Contains-push_cases [] x y one) [
      | inl none ↦ absurd (not_in_none y none)
      | inr is ↦ inl is
    ]
    | inr more ↦ inr more
  ]

  -- ---- among those that pass a test

  pub in_filter : (f : X → Bool) (x : X) (xs : List X) → Contains xs x → f x ≡ true → Contains (filter f xs) x
  in_filter f x [] h passes = absurd (not_in_none x h)
  in_filter f x (y ∷ xs) h passes = elim (first_or_later y x xs h) [
    | inl is ↦ subst (λ b. Contains (cond b (y ∷ filter f xs) (filter f xs)) x) (sym (ap f is ∙ passes)) (subst (λ z. Contains (z ∷ filter f xs) x) (sym is) (here x (filter f xs)))
    | inr more ↦ by (f y) (in_filter f x xs more passes)
  ]
    where
      by : (b : Bool) → Contains (filter f xs) x → Contains (cond b (y ∷ filter f xs) (filter f xs)) x
      by true rest = later y x (filter f xs) rest
      by false rest = rest

  pub from_filter : (f : X → Bool) (x : X) (xs : List X) → Contains (filter f xs) x → Contains xs x × (f x ≡ true)
  from_filter f x [] h = absurd (not_in_none x h)
  from_filter f x (y ∷ xs) h = by (f y) refl (from_filter f x xs) h
    where
      by : (b : Bool) → f y ≡ b → (Contains (filter f xs) x → Contains xs x × (f x ≡ true)) → Contains (cond b (y ∷ filter f xs) (filter f xs)) x → Contains (y ∷ xs) x × (f x ≡ true)
      by true passes rest at = elim (first_or_later y x (filter f xs) at) [
        | inl is ↦ (subst (λ z. Contains (z ∷ xs) x) (sym is) (here x xs), ap f (sym is) ∙ passes)
        | inr more ↦ (later y x xs (rest more).0, (rest more).1)
      ]
      by false passes rest at = (later y x xs (rest at).0, (rest at).1)

module _ {X Y : Type 0} where
  pub in_map : (f : X → Y) (x : X) (xs : List X) → Contains xs x → Contains (map f xs) (f x)
  in_map f x [] h = absurd (not_in_none x h)
  in_map f x (y ∷ xs) h = elim (first_or_later y x xs h) [
    | inl is ↦ subst (λ z. Contains (z ∷ map f xs) (f x)) (ap f (sym is)) (here (f x) (map f xs))
    | inr more ↦ later (f y) (f x) (map f xs) (in_map f x xs more)
  ]

  pub from_map : (f : X → Y) (y : Y) (xs : List X) → Contains (map f xs) y → (x : X) × Contains xs x × (f x ≡ y)
  from_map f y [] h = absurd (not_in_none y h)
  from_map f y (x ∷ xs) h = elim (first_or_later (f x) y (map f xs) h) [
    | inl is ↦ (x, here x xs, is)
    | inr more ↦ let rest = from_map f y xs more in (rest.0, later x rest.0 xs rest.1, rest.2)
  ]

  pub in_flat_map : (f : X → List Y) (x : X) (y : Y) (xs : List X) → Contains xs x → Contains (f x) y → Contains (flat_map f xs) y
  in_flat_map f x y [] h at = absurd (not_in_none x h)
  in_flat_map f x y (z ∷ xs) h at = elim (first_or_later z x xs h) [
    | inl is ↦ Contains-append_left (f z) (flat_map f xs) y (subst (λ w. Contains (f w) y) (sym is) at)
    | inr more ↦ Contains-append_right (f z) (flat_map f xs) y (in_flat_map f x y xs more at)
  ]

  pub from_flat_map : (f : X → List Y) (y : Y) (xs : List X) → Contains (flat_map f xs) y → (x : X) × Contains xs x × Contains (f x) y
  from_flat_map f y [] h = absurd (not_in_none y h)
  from_flat_map f y (x ∷ xs) h = elim (Contains-append_cases (f x) (flat_map f xs) y h) [
    | inl at ↦ (x, here x xs, at)
    | inr more ↦ let rest = from_flat_map f y xs more in (rest.0, later x rest.0 xs rest.1, rest.2)
  ]

-- ---- the entries of a directory

pub tied : (o : Ordering) → is_eq o ≡ true → o ≡ Equal
tied Less h = cc
tied Equal h = refl
tied Greater h = cc

pub same_path : (p q : Path) → eq_by_cmp path_cmp p q ≡ true → p ≡ q
same_path p q is = path_exact p q (tied (path_cmp p q) is)

found_in : (p : Path) (e : EntryContent) (es : List (Path × EntryContent)) → finite.find path_cmp p es ≡ Some e → Contains es (p, e)
found_in p e [] is = cc
found_in p e (x ∷ es) is = by (eq_by_cmp path_cmp p x.0) refl (found_in p e es) is
  where
    by : (b : Bool) → eq_by_cmp path_cmp p x.0 ≡ b → (finite.find path_cmp p es ≡ Some e → Contains es (p, e)) → cond b (Some x.1) (finite.find path_cmp p es) ≡ Some e → Contains (x ∷ es) (p, e)
    by true tie rest found =
        let same : p ≡ x.0 = same_path p x.0 tie in
        let entry : x.1 ≡ e = cc in
        let whole : x ≡ (p, e) = (λ i. (sym same i, entry i)) in
        subst (λ (y : Path × EntryContent). Contains (y ∷ es) (p, e)) (sym whole) (here (p, e) es)
    by false tie rest found = later x (p, e) es (rest found)

pub is_in : (d : Entries) (p : Path) (e : EntryContent) → finite.get d p ≡ Some e → Contains (finite.entries d) (p, e)
is_in d p e at = found_in p e (finite.entries d) (sym (finite.get-entries d p) ∙ at)

pub is_there : (d : Entries) (p : Path) (e : EntryContent) → Contains (finite.entries d) (p, e) → finite.get d p ≡ Some e
is_there d p e h =
    All-contains (λ (x : Path × EntryContent). finite.get d x.0 ≡ Some x.1) (finite.entries d) (p, e)
    (All-from_recursion (λ (x : Path × EntryContent). finite.get d x.0 ≡ Some x.1) (finite.entries d)
    (all_found path_cmp path_total (λ q x. finite.get d q ≡ Some x) (finite.entries d) (finite.entries_sorted d) (λ q x at. finite.get-entries d q ∙ at))) h
