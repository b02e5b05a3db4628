-- Tests of the elements of a list, and what they tell.
use Rattle.std.proofs.Common.{◌≡◌, ◌↔◌, ℕ, ◌<◌, Bool, true, false, not, ◌||◌, List, [], ◌∷◌, Option, Some, None, refl, sym, ap, ◌∙◌}
use Rattle.std.specs.Prelude.{◌&&◌, is_some, nat_le}
use Rattle.std.specs.List.{list_all, list_any, Any}
use Rattle.std.proofs.lemmas.Bool.{lt-leb, leb-false}
use Rattle.std.proofs.lemmas.List.Folds.{Any-from_list_any, list_any-from_Any}

-- ---- Bools

pub off : (b : Bool) → not b ≡ true → b ≡ false
off true h = sym h
off false h = refl

pub on : (b : Bool) → b ≡ false → not b ≡ true
on b h = ap (λ (c : Bool). not c) h

pub both : (a b : Bool) → (a && b) ≡ true → (a ≡ true) × (b ≡ true)
both true b h = (refl, h)
both false b h = absurd cc

pub joined : (a b : Bool) → a ≡ true → b ≡ true → (a && b) ≡ true
joined a b h k = ap (λ (x : Bool). x && b) h ∙ k

-- ---- options

pub only_some : {X : Type 0} (o : Option X) (x y : X) → o ≡ Some x → o ≡ Some y → x ≡ y
only_some o x y h k = let both = sym h ∙ k in cc

pub is_none : {X : Type 0} (o : Option X) (x : X) → o ≡ None → o ≡ Some x → ⊥
is_none o x h k = let both = sym h ∙ k in cc

pub none_there : {X : Type 0} (o : Option X) → is_some o ≡ false → o ≡ None
none_there None h = refl
none_there (Some x) h = absurd cc

-- ---- some element

pub some_map : {X : Type 0} (P Q : X → Type 0) → ((x : X) → P x → Q x) → (xs : List X) → Any P xs → Any Q xs
some_map P Q f xs h = (h.0, h.1, h.2, h.3, f h.1 h.4)

pub any_told : {X : Type 0} (p : X → Bool) (P : X → Type 0) → ((x : X) → (p x ≡ true) ↔ P x) → (xs : List X) → (list_any p xs ≡ true) ↔ Any P xs
any_told p P told xs = (
  λ h. some_map (λ x. p x ≡ true) P (λ x. (told x).0) xs (Any-from_list_any p xs h),
  λ h. list_any-from_Any p xs (some_map P (λ x. p x ≡ true) (λ x. (told x).1) xs h),
)

-- a test of all elements is one for an element that doesn't pass
all_by_any : {X : Type 0} (p : X → Bool) (xs : List X) → list_all p xs ≡ not (list_any (λ x. not (p x)) xs)
all_by_any p [] = refl
all_by_any p (x ∷ xs) = ap (λ (b : Bool). p x && b) (all_by_any p xs) ∙ by (p x) (list_any (λ y. not (p y)) xs)
  where
    by : (a b : Bool) → (a && not b) ≡ not (not a || b)
    by true b = refl
    by false b = refl

untrue : (b : Bool) → not b ≡ false → b ≡ true
untrue true h = refl
untrue false h = sym h

pub all_told : {X : Type 0} (p : X → Bool) (P : X → Type 0) → ((x : X) → (p x ≡ false) ↔ P x) → (xs : List X) → (list_all p xs ≡ false) ↔ Any P xs
all_told {X} p P told xs =
    let some = any_told (λ x. not (p x)) P (λ x. (λ h. (told x).0 (off (p x) h), λ h. on (p x) ((told x).1 h))) xs in (
      λ h. some.0 (untrue (list_any (λ x. not (p x)) xs) (sym (all_by_any p xs) ∙ h)),
      λ h. all_by_any p xs ∙ ap (λ (b : Bool). not b) (some.1 h),
    )

-- a test for an attribute with one value at most, where that is asked for
pub more_than_one : (asked : Bool) (n : ℕ) → ((not asked || nat_le n 1) ≡ false) ↔ ((asked ≡ true) × (1 < n))
more_than_one true n = (λ h. (refl, leb-false n 1 h), λ h. lt-leb n 1 h.1)
more_than_one false n = (λ h. absurd cc, λ h. absurd (let no = h.0 in cc))
