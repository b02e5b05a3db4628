-- The first element of a list that passes a test.
use Rattle.std.proofs.Common.{◌≡◌, ℕ, ◌+◌, ◌<◌, ◌≤◌, ◌∙◌, ap, sym, refl, true, false, Bool, ◌||◌, List, [], ◌∷◌, ◌++◌, length, drop, get_or, map, Option, Some, None}
use Rattle.std.specs.List.{filter, list_any, slice_get}
use Rattle.std.specs.Option.{option_map}
use Rattle.std.proofs.lemmas.List.{at_drop_more, at_drop_all}
use Rattle.std.proofs.lemmas.Option.{slice_get-map}

abbrev pub first_by : {X : Type 0} → (X → Bool) → List X → Option X
first_by p xs = slice_get (filter p xs) 0

here : {X : Type 0} (p : X → Bool) (x : X) (xs : List X) → p x ≡ true → first_by p (x ∷ xs) ≡ Some x
here p x xs is = rw is refl

later : {X : Type 0} (p : X → Bool) (x : X) (xs : List X) → p x ≡ false → first_by p (x ∷ xs) ≡ first_by p xs
later p x xs is = rw is refl

module _ {X : Type 0} (p : X → Bool) (xs : List X) (i : ℕ) where
  next : (x : X) → i < length xs → x ≡ get_or xs i x → first_by p (drop i xs) ≡ first_by p (x ∷ drop (i + 1) xs)
  next x more is = at_drop_more (first_by p) xs i x more ∙ ap (λ y. first_by p (y ∷ drop (i + 1) xs)) (sym is)

  pub first_at : (x : X) → i < length xs → x ≡ get_or xs i x → p x ≡ true → first_by p (drop i xs) ≡ first_by p xs → Some x ≡ first_by p xs
  first_at x more is passes same = sym (here p x (drop (i + 1) xs) passes) ∙ sym (next x more is) ∙ same

  pub first_behind : (x : X) → i < length xs → x ≡ get_or xs i x → p x ≡ false → first_by p (drop i xs) ≡ first_by p xs
      → first_by p (drop (i + 1) xs) ≡ first_by p xs
  first_behind x more is fails same = sym (later p x (drop (i + 1) xs) fails) ∙ sym (next x more is) ∙ same

  pub first_none : length xs ≤ i → first_by p (drop i xs) ≡ first_by p xs → ◌≡◌ {A = Option X} None (first_by p xs)
  first_none all same = sym (at_drop_all (first_by p) xs i all) ∙ same

-- ---- whether some element passes it

module _ {X : Type 0} (p : X → Bool) (xs : List X) (i : ℕ) where
  any_next : (x : X) → i < length xs → x ≡ get_or xs i x → list_any p (drop i xs) ≡ list_any p (x ∷ drop (i + 1) xs)
  any_next x more is = at_drop_more (list_any p) xs i x more ∙ ap (λ y. list_any p (y ∷ drop (i + 1) xs)) (sym is)

  pub any_at : (x : X) → i < length xs → x ≡ get_or xs i x → p x ≡ true → list_any p (drop i xs) ≡ list_any p xs → true ≡ list_any p xs
  any_at x more is passes same = sym (ap (λ t. t || list_any p (drop (i + 1) xs)) passes) ∙ sym (any_next x more is) ∙ same

  pub any_behind : (x : X) → i < length xs → x ≡ get_or xs i x → p x ≡ false → list_any p (drop i xs) ≡ list_any p xs
      → list_any p (drop (i + 1) xs) ≡ list_any p xs
  any_behind x more is fails same = sym (ap (λ t. t || list_any p (drop (i + 1) xs)) fails) ∙ sym (any_next x more is) ∙ same

-- what it is seen as
pub first_seen : {X Y : Type 0} (f : X → Y) (xs : List X) (o : Option X) → o ≡ slice_get xs 0 → option_map f o ≡ slice_get (map f xs) 0
first_seen f xs o is = ap (option_map f) is ∙ sym (slice_get-map f xs 0)

-- ---- of two lists

pub first_of_front : {X : Type 0} (xs ys : List X) (x : X) → Some x ≡ slice_get xs 0 → Some x ≡ slice_get (xs ++ ys) 0
first_of_front [] ys x is = let e : Some x ≡ None = is in cc
first_of_front (y ∷ xs) ys x is = is

pub first_of_back : {X : Type 0} (xs ys : List X) → ◌≡◌ {A = Option X} None (slice_get xs 0) → slice_get (xs ++ ys) 0 ≡ slice_get ys 0
first_of_back [] ys is = refl
first_of_back (y ∷ xs) ys is = let e : ◌≡◌ {A = Option _} None (Some y) = is in cc
