-- What its object classes ask of an entry (RFC 4512, 2.4 and 3.3): class by class, and as a test.
use Rattle.std.specs.Prelude.{◌≡◌, ℕ, Bool, true, not, ◌&&◌, ◌||◌, List, length, nat_eq, nat_lt, is_some}
use Rattle.std.specs.List.{list_any, list_all, filter_map, AllByRecursion}
use Rattle.values.specs.Types.{type_at}
use Rattle.schema.specs.Conf.{Conf}
use Rattle.schema.specs.declared.object_class.ObjectClass.{ObjectClass}
use Rattle.schema.specs.Classes.{class_of, class_at}
use Rattle.schema.specs.Superclasses.{has_number, with_superclasses, is_listed, IsAtOrAboveOne}
use Rattle.entries.specs.Contents.{Attributes, values_of}

-- an attribute objectClass, the type with number 0, is there
abbrev pub has_class : Attributes → Bool
has_class attrs = list_any (λ a. nat_eq 0 a.0) attrs

-- whether a type itself has a value; one under a subtype doesn't serve
abbrev pub has_type : Attributes → ℕ → Bool
has_type attrs t = list_any (λ a. nat_eq t a.0) attrs

-- the classes that these values of objectClass name, each by a name or its OID
abbrev pub named_classes : List ObjectClass → List (List ℕ) → List ℕ
named_classes classes vs = filter_map (class_of classes) vs

-- ---- class by class

-- an entry belongs to each class that it names, and to each superclass of one
abbrev pub BelongsTo : Conf → Attributes → ℕ → Type 0
BelongsTo conf attrs c = IsAtOrAboveOne conf.classes (named_classes conf.classes (values_of attrs 0)) c

-- why an entry may have a type: it is objectClass; servers use it (USAGE); the entry belongs to extensibleObject, the class with number 1;
-- or a class to which it belongs names the type, in MUST or MAY
pub data MayHave (conf : Conf) (attrs : Attributes) (t : ℕ) : Type 0 where
  IsObjectClass : t ≡ 0 → MayHave conf attrs t
  Operational : (type_at conf.types t).is_operational ≡ true → MayHave conf attrs t
  Extensible : BelongsTo conf attrs 1 → MayHave conf attrs t
  Listed : (c : ℕ) → BelongsTo conf attrs c → is_listed (class_at conf.classes c) t ≡ true → MayHave conf attrs t

pub record FitsClasses (conf : Conf) (attrs : Attributes) : Type 0 where
  -- each value of objectClass names a class
  pub classes : AllByRecursion (λ v. is_some (class_of conf.classes v) ≡ true) (values_of attrs 0)
  -- what a class to which it belongs requires is there
  pub required : (c t : ℕ) → BelongsTo conf attrs c → has_number (class_at conf.classes c).must t ≡ true → has_type attrs t ≡ true
  -- it may have each of its types
  pub allowed : AllByRecursion (λ a. MayHave conf attrs a.0) attrs

-- ---- as a test

-- each of these values of objectClass names a class
abbrev pub are_classes : List ObjectClass → List (List ℕ) → Bool
are_classes classes vs = list_all (λ v. is_some (class_of classes v)) vs

-- each type that one of these classes requires (MUST) has a value
abbrev pub has_required : List ObjectClass → Attributes → List ℕ → Bool
has_required classes attrs cs = list_all (λ c. list_all (has_type attrs) (class_at classes c).must) cs

-- an entry that belongs to these classes may have this type
abbrev pub is_allowed : Conf → List ℕ → ℕ → Bool
is_allowed conf cs t = nat_eq t 0 || ((type_at conf.types t).is_operational || (has_number cs 1 || list_any (λ c. is_listed (class_at conf.classes c) t) cs))

abbrev pub are_allowed : Conf → List ℕ → Attributes → Bool
are_allowed conf cs attrs = list_all (λ a. is_allowed conf cs a.0) attrs

-- the classes to which an entry belongs
abbrev pub classes_of : Conf → Attributes → List ℕ
classes_of conf attrs = with_superclasses conf.classes (named_classes conf.classes (values_of attrs 0))

-- each value of objectClass names a class, and the entry has what its classes require and nothing that they don't allow
unfoldable pub fits_classes : Conf → Attributes → Bool
fits_classes conf attrs =
    are_classes conf.classes (values_of attrs 0) && (has_required conf.classes attrs (classes_of conf attrs) && are_allowed conf (classes_of conf attrs) attrs)

-- whether a configuration has a class besides the two that each one has
abbrev pub defines_classes : Conf → Bool
defines_classes conf = nat_lt 2 (length conf.classes)

-- an objectClass is there; and where a class is defined, the entry fits its classes
abbrev pub has_its_classes : Conf → Attributes → Bool
has_its_classes conf attrs = has_class attrs && (not (defines_classes conf) || fits_classes conf attrs)
