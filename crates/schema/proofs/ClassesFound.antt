-- Object classes by their names, one class after the other.
use Rattle.std.proofs.Common.{◌≡◌, ℕ, ◌+◌, ◌<◌, Bool, true, false, cond, ◌||◌, List, [], ◌∷◌, ◌++◌, length, Option, Some, None, refl, sym, ap, ◌∙◌, arith}
use Rattle.std.specs.Prelude.{IfSome, is_some}
use Rattle.std.specs.List.{list_any, position_from}
use Rattle.std.proofs.lemmas.List.Quantifiers.{position-Some}
use Rattle.std.proofs.lemmas.Iterator.Adapters.{position_from-zero}
use Rattle.values.specs.declared.name_index.NameEntry.{NameEntry}
use Rattle.values.specs.Tables.{number_of, or_if}
use Rattle.schema.specs.declared.object_class.ObjectClass.{ObjectClass}
use Rattle.schema.specs.Classes.{is_class_named, is_class, class_of, no_class}
use Rattle.schema.specs.inner.Classes.{FindsClasses}

pub from_is_any : {X : Type 0} (p : X → Bool) (i : ℕ) (xs : List X) → is_some (position_from p i xs) ≡ list_any p xs
from_is_any p i [] = refl
from_is_any p i (x ∷ xs) =
    elim (p x) as (λ b. is_some (cond b (Some i) (position_from p (i + 1) xs)) ≡ (b || list_any p xs)) [ true ↦ refl | false ↦ from_is_any p (i + 1) xs ]

from_push : {X : Type 0} (p : X → Bool) (i : ℕ) (xs : List X) (y : X) → position_from p i (xs ++ y ∷ []) ≡ or_if (position_from p i xs) (p y) (i + length xs)
from_push p i [] y = ap (λ n. or_if None (p y) n) (omega arith)
from_push p i (x ∷ xs) y =
    elim (p x) as (λ b. cond b (Some i) (position_from p (i + 1) (xs ++ y ∷ [])) ≡ or_if (cond b (Some i) (position_from p (i + 1) xs)) (p y) (i + length (x ∷ xs))) [
      | true ↦ refl
      | false ↦ from_push p (i + 1) xs y ∙ ap (λ n. or_if (position_from p (i + 1) xs) (p y) n) (omega arith)
    ]

-- one class more
pub class_more : (classes : List ObjectClass) (new : ObjectClass) (name : List ℕ) → class_of (classes ++ new ∷ []) name ≡ or_if (class_of classes name) (is_class_named name new) (length classes)
unfolding class_of
class_more classes new name =
    position_from-zero (is_class_named name) (classes ++ new ∷ [])
    ∙ from_push (is_class_named name) 0 classes new
    ∙ ap (λ n. or_if (position_from (is_class_named name) 0 classes) (is_class_named name new) n) (omega arith)
    ∙ ap (λ (o : Option ℕ). or_if o (is_class_named name new) (length classes)) (sym (position_from-zero (is_class_named name) classes))

pub found_is_known : (classes : List ObjectClass) (name : List ℕ) (o : Option ℕ) → o ≡ class_of classes name → IfSome o (λ c. c < length classes)
unfolding class_of
found_is_known classes name (Some c) e = (position-Some (is_class_named name) classes c no_class (sym e)).0
found_is_known classes name None e = tt

-- nothing is found where there is no class
pub no_class_found : (entries : List NameEntry) → entries ≡ [] → FindsClasses entries []
unfolding class_of
no_class_found entries none name = ap (λ (es : List NameEntry). number_of es name) none

pub class_is_there : (classes : List ObjectClass) (name : List ℕ) → is_some (class_of classes name) ≡ is_class classes name
unfolding class_of
class_is_there classes name = ap (λ (o : Option ℕ). is_some o) (position_from-zero (is_class_named name) classes) ∙ from_is_any (is_class_named name) 0 classes
