-- Object classes and their superclasses (RFC 4512, 2.4 and 4.1.1).
use Rattle.std.specs.Prelude.{◌≡◌, ℕ, zero, suc, Bool, true, ◌||◌, List, [], ◌∷◌, nat_eq}
use Rattle.std.specs.List.{list_any, flat_map}
use Rattle.schema.specs.declared.object_class.ObjectClass.{ObjectClass}
use Rattle.schema.specs.Classes.{class_at}

-- whether this number is one of these
abbrev pub has_number : List ℕ → ℕ → Bool
has_number numbers n = list_any (nat_eq n) numbers

-- ---- by the way up

-- from a class up to another one, by way of these, each of them a direct superclass (SUP) of the one before it
abbrev pub LeadsUp : List ObjectClass → ℕ → List ℕ → ℕ → Type 0
LeadsUp classes c [] d = c ≡ d
LeadsUp classes c (s ∷ ss) d = (has_number (class_at classes c).superiors s ≡ true) × LeadsUp classes s ss d

-- d is c itself, or one of its superclasses, direct or not
pub record IsAtOrAbove (classes : List ObjectClass) (c d : ℕ) : Type 0 where
  pub above : List ℕ
  pub by : LeadsUp classes c above d

-- d is one of these classes, or a superclass of one of them
pub record IsAtOrAboveOne (classes : List ObjectClass) (named : List ℕ) (d : ℕ) : Type 0 where
  pub class : ℕ
  pub is_named : has_number named class ≡ true
  pub derived : IsAtOrAbove classes class d

-- ---- as a list

-- a class and its superclasses, so many steps up; one that is reached by two ways stands there twice
unfoldable pub lineage_up : List ObjectClass → ℕ → ℕ → List ℕ
lineage_up classes zero c = c ∷ []
lineage_up classes (suc steps) c = c ∷ flat_map (lineage_up classes steps) (class_at classes c).superiors

-- the same, all the way up: a superclass has a lower number, so there are no more steps than its number
abbrev pub lineage : List ObjectClass → ℕ → List ℕ
lineage classes c = lineage_up classes c c

-- these classes and all of their superclasses
abbrev pub with_superclasses : List ObjectClass → List ℕ → List ℕ
with_superclasses classes named = flat_map (lineage classes) named

-- ---- what a class asks, by itself and by its superclasses

-- whether a class names a type, in MUST or MAY
abbrev pub is_listed : ObjectClass → ℕ → Bool
is_listed c t = has_number c.must t || has_number c.may t

-- one of them requires a type (MUST)
abbrev pub is_required : List ObjectClass → ℕ → ℕ → Bool
is_required classes c t = list_any (λ d. has_number (class_at classes d).must t) (lineage classes c)

-- one of them names a type
abbrev pub is_named : List ObjectClass → ℕ → ℕ → Bool
is_named classes c t = list_any (λ d. is_listed (class_at classes d) t) (lineage classes c)

-- one of them is extensibleObject, the class with number 1
abbrev pub is_extensible : List ObjectClass → ℕ → Bool
is_extensible classes c = has_number (lineage classes c) 1
