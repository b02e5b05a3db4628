-- Whether one of a definition's names is there already: each is looked up by itself.
use Rattle.std.proofs.Common.{◌≡◌, ℕ, Bool, true, false, ◌||◌, List, [], ◌∷◌, map, Option, Some, None, refl, sym, ap, ◌∙◌}
use Rattle.std.specs.Prelude.{is_some}
use Rattle.std.specs.List.{list_any}
use Rattle.std.proofs.lemmas.Iterator.Adapters.{position_from-zero}
use Rattle.values.specs.declared.types.AttributeType.{AttributeType}
use Rattle.values.specs.Tables.{or_if}
use Rattle.values.specs.Types.{is_named, type_of}
use Rattle.definitions.specs.declared.element.Element.{Element}
use Rattle.schema.proofs.ClassesFound.{from_is_any}
use Rattle.schema.specs.declared.object_class.ObjectClass.{ObjectClass}
use Rattle.schema.specs.Classes.{is_class, is_class_named}
use Rattle.dir_conf.specs.Configurations.{is_type, names_one, shares_class_name}

or_swap : (a b c d : Bool) → ((a || b) || (c || d)) ≡ ((a || c) || (b || d))
or_swap true b c d = refl
or_swap false true true d = refl
or_swap false true false d = refl
or_swap false false true d = refl
or_swap false false false d = refl

pub any_or : {X : Type 0} (p q : X → Bool) (xs : List X) → list_any (λ x. p x || q x) xs ≡ (list_any p xs || list_any q xs)
any_or p q [] = refl
any_or p q (x ∷ xs) = ap (λ (b : Bool). (p x || q x) || b) (any_or p q xs) ∙ or_swap (p x) (q x) (list_any p xs) (list_any q xs)

pub any_same : {X : Type 0} (p q : X → Bool) (xs : List X) → ((x : X) → p x ≡ q x) → list_any p xs ≡ list_any q xs
any_same p q [] same = refl
any_same p q (x ∷ xs) same = λ j. same x j || any_same p q xs same j

pub any_map : {X Y : Type 0} (p : Y → Bool) (f : X → Y) (xs : List X) → list_any p (map f xs) ≡ list_any (λ x. p (f x)) xs
any_map p f [] = refl
any_map p f (x ∷ xs) = ap (λ (b : Bool). p (f x) || b) (any_map p f xs)

pub any_none : {X : Type 0} (xs : List X) → list_any (λ x. false) xs ≡ false
any_none [] = refl
any_none (x ∷ xs) = any_none xs

any_swap : {X Y : Type 0} (p : X → Y → Bool) (xs : List X) (ys : List Y) → list_any (λ y. list_any (λ x. p x y) xs) ys ≡ list_any (λ x. list_any (p x) ys) xs
any_swap p [] ys = any_none ys
any_swap p (x ∷ xs) ys = any_or (p x) (λ y. list_any (λ z. p z y) xs) ys ∙ ap (λ (b : Bool). list_any (p x) ys || b) (any_swap p xs ys)

pub type_is_there : (types : List AttributeType) (name : List ℕ) → is_some (type_of types name) ≡ is_type types name
unfolding type_of
type_is_there types name = ap (λ (o : Option ℕ). is_some o) (position_from-zero (is_named name) types) ∙ from_is_any (is_named name) 0 types

pub types_share : (types : List AttributeType) (e : Element) → list_any (names_one e) types ≡ (is_type types e.oid || list_any (is_type types) e.names)
types_share types e = any_swap is_named (e.oid ∷ e.names) types

pub classes_share : (classes : List ObjectClass) (e : Element) → list_any (shares_class_name e) classes ≡ (is_class classes e.oid || list_any (is_class classes) e.names)
classes_share classes e = any_swap is_class_named (e.oid ∷ e.names) classes

pub some_or_if : (o : Option ℕ) (b : Bool) (n : ℕ) → is_some (or_if o b n) ≡ (is_some o || b)
some_or_if (Some m) b n = refl
some_or_if None true n = refl
some_or_if None false n = refl

-- a test and another one, where the first decides
pub or_true : (a b whole : Bool) → whole ≡ (a || b) → a ≡ true → a ≡ whole
or_true a b whole is h = h ∙ sym (is ∙ ap (λ (c : Bool). c || b) h)

pub or_else : (a b whole : Bool) → whole ≡ (a || b) → a ≡ false → b ≡ whole
or_else a b whole is h = sym (is ∙ ap (λ (c : Bool). c || b) h)
