-- What holds of the value of an option, where there is one.
use Rattle.std.proofs.Common.{◌≡◌, Bool, true, false, cond, Option, Some, None, refl, subst}
use Rattle.definitions.specs.Words.{◌>>>◌}

abbrev pub IfThere : {A : Type 0} → (A → Type 0) → Option A → Type 0
IfThere P None = Unit {0}
IfThere P (Some x) = P x

pub chosen : {A : Type 0} (P : A → Type 0) (b : Bool) (x y : Option A) → (b ≡ true → IfThere P x) → (b ≡ false → IfThere P y) → IfThere P (cond b x y)
chosen P true x y h k = h refl
chosen P false x y h k = k refl

pub bound : {A B : Type 0} (P : B → Type 0) (o : Option A) (f : A → Option B) → ((a : A) → o ≡ Some a → IfThere P (f a)) → IfThere P (o >>> f)
bound P None f h = tt
bound P (Some a) f h = h a refl

pub there : {A : Type 0} (P : A → Type 0) (o : Option A) (x : A) → o ≡ Some x → IfThere P o → P x
there P o x e h = subst (IfThere P) e h

pub weaker : {A : Type 0} (P Q : A → Type 0) (o : Option A) → ((a : A) → P a → Q a) → IfThere P o → IfThere Q o
weaker P Q None f h = tt
weaker P Q (Some a) f h = f a h
