-- Lists that are cut into parts, and texts by their line feeds.
use Rattle.std.proofs.Common.{◌≡◌, ℕ, Bool, true, false, cond, eqb, List, [], ◌∷◌, refl}
use Rattle.std.specs.List.{slice_split, onto_first}
use Rattle.ldif_lines.specs.Records.{but_last}
use Rattle.ldif_lines.specs.inner.States.{cut}

abbrev pub is_feed : ℕ → Bool
is_feed b = eqb b 10

-- a list that isn't empty
abbrev pub IsCons : {X : Type 0} → List X → Type 0
IsCons {X} xs = (y : X) × (more : List X) × (xs ≡ y ∷ more)

cond_cons : {X : Type 0} (b : Bool) (parts more : List (List X)) (x : X) → IsCons (cond b ([] ∷ parts) (onto_first x more))
cond_cons true parts more x = ([], parts, refl)
cond_cons false parts [] x = (x ∷ [], [], refl)
cond_cons false parts (y ∷ ys) x = (x ∷ y, ys, refl)

-- a cut has a first part
pub split_cons : {X : Type 0} (p : X → Bool) (xs : List X) → IsCons (slice_split p xs)
split_cons p [] = ([], [], refl)
split_cons p (x ∷ xs) = cond_cons (p x) (slice_split p xs) (slice_split p xs) x

cons_not_nil : {A : Type 0} {x : A} {xs : List A} → [] ≡ x ∷ xs → ⊥
cons_not_nil e = (cc)

-- what stands before something isn't the last
pub heads : {A : Type 0} (only : Bool) (x : A) (xs : List A) → IsCons xs → cut only (x ∷ xs) ≡ x ∷ cut only xs
unfolding but_last
heads false x xs h = refl
heads true x [] h = absurd (cons_not_nil h.2)
heads true x (y ∷ xs) h = refl
