-- What the parts of a reading answered, by what it answered.
use Rattle.std.proofs.Common.{◌≡◌, ℕ, Bool, true, false, cond, List, [], ◌∷◌, Result, Ok, Err, refl, sym, ap, ◌∙◌, inl, inr, ◌⊎◌}
use Rattle.std.specs.List.{AllByRecursion}
use Rattle.std.specs.Str.{bytes_eq}
use Rattle.std.proofs.lemmas.Bool.{false_from_ne_true, true≢false}
use Rattle.std.proofs.lemmas.Slice.Eq.{bytes_eq-Decides}
use Rattle.ldif.specs.declared.fault.LdifFaultKind.{LdifFaultKind}
use Rattle.base.specs.Answers.{◌>>=◌, each}
use Rattle.base.proofs.Bound.{bind_ok}
use Rattle.ldif.specs.Line.{lower, same_name}
use Rattle.ldif.specs.Forms.{IsEach, IsSame}

pub chosen : {A : Type 0} (b : Bool) (x y z : A) → cond b x y ≡ z → ((b ≡ true) × (x ≡ z)) ⊎ ((b ≡ false) × (y ≡ z))
chosen true x y z e = inl (refl, e)
chosen false x y z e = inr (refl, e)

abbrev pub okay : {A : Type 0} → A → Result A LdifFaultKind
okay x = Ok x

pub ok_is : {A : Type 0} (x y : A) → okay x ≡ okay y → x ≡ y
ok_is x y e = cc

-- a test that chose the good side
pub good : {A : Type 0} (b : Bool) (r : Result A LdifFaultKind) (f : LdifFaultKind) (y : A) → cond b r (Err f) ≡ okay y → (b ≡ true) × (r ≡ Ok y)
good true r f y e = (refl, e)
good false r f y e = absurd cc

pub bad : {A : Type 0} (b : Bool) (r : Result A LdifFaultKind) (f : LdifFaultKind) (y : A) → cond b (Err f) r ≡ okay y → (b ≡ false) × (r ≡ Ok y)
bad true r f y e = absurd cc
bad false r f y e = (refl, e)

-- ---- names

pub same_found : (a b : List ℕ) → same_name a b ≡ true → IsSame a b
same_found a b e = (bytes_eq-Decides (lower a) (lower b)).0 e

pub same_only : (a b : List ℕ) → IsSame a b → same_name a b ≡ true
same_only a b h = (bytes_eq-Decides (lower a) (lower b)).1 h

pub other_found : (a b : List ℕ) → same_name a b ≡ false → IsSame a b → ⊥
other_found a b e h = true≢false (sym (same_only a b h) ∙ e)

pub other_only : (a b : List ℕ) → (IsSame a b → ⊥) → same_name a b ≡ false
other_only a b h = false_from_ne_true (same_name a b) (λ e. h (same_found a b e))

-- what is the same as one word is not the same as another
pub other_word : (name a b : List ℕ) → IsSame name a → bytes_eq (lower a) (lower b) ≡ false → same_name name b ≡ false
other_word name a b same e = ap (λ (x : List ℕ). bytes_eq x (lower b)) same ∙ e

-- ---- each of a list

module _ {X Y : Type 0} (read : X → Result Y LdifFaultKind) where
  abbrev pub Reads : X → Y → Type 0
  Reads x y = read x ≡ Ok y

  pub each_found : (xs : List X) (ys : List Y) → each read xs ≡ Ok ys → IsEach Reads xs ys
  unfolding each
  each_found [] [] e = tt
  each_found [] (y ∷ ys) e = absurd cc
  each_found (x ∷ xs) ys e =
      let a = bind_ok (read x) (λ y. each read xs >>= λ zs. Ok (y ∷ zs)) ys e in
      let b = bind_ok (each read xs) (λ zs. Ok (a.0 ∷ zs)) ys a.2 in
      elim ys as (λ v. okay (a.0 ∷ b.0) ≡ okay v → IsEach Reads (x ∷ xs) v) [
        | [] ↦ λ k. absurd cc
        | z ∷ zs ↦ λ k. (let p : a.0 ≡ z = cc in let q : b.0 ≡ zs = cc in (a.1 ∙ ap okay p, each_found xs zs (b.1 ∙ ap okay q)))
      ] b.2

  pub each_only : (xs : List X) (ys : List Y) → IsEach Reads xs ys → each read xs ≡ Ok ys
  unfolding each
  each_only [] [] h = refl
  each_only [] (y ∷ ys) h = absurd h
  each_only (x ∷ xs) [] h = absurd h
  each_only (x ∷ xs) (y ∷ ys) h =
      ap (λ (r : Result Y LdifFaultKind). r >>= λ y. each read xs >>= λ zs. Ok (y ∷ zs)) h.0
      ∙ ap (λ (r : Result (List Y) LdifFaultKind). r >>= λ zs. okay (y ∷ zs)) (each_only xs ys h.1)

pub each_map : {X Y : Type 0} (P : X → Type 0) (R S : X → Y → Type 0) → ((x : X) (y : Y) → P x → R x y → S x y) → (xs : List X) (ys : List Y) → AllByRecursion P xs → IsEach R xs ys → IsEach S xs ys
each_map P R S f [] [] all h = tt
each_map P R S f [] (y ∷ ys) all h = absurd h
each_map P R S f (x ∷ xs) [] all h = absurd h
each_map P R S f (x ∷ xs) (y ∷ ys) all h = (f x y all.0 h.0, each_map P R S f xs ys all.1 h.1)

pub each_all : {X Y : Type 0} (R S : X → Y → Type 0) → ((x : X) (y : Y) → R x y → S x y) → (xs : List X) (ys : List Y) → IsEach R xs ys → IsEach S xs ys
each_all R S f [] [] h = tt
each_all R S f [] (y ∷ ys) h = absurd h
each_all R S f (x ∷ xs) [] h = absurd h
each_all R S f (x ∷ xs) (y ∷ ys) h = (f x y h.0, each_all R S f xs ys h.1)
