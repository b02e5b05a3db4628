-- What may be wrong with an entry as a whole, which is looked at when all is done (RFC 4512, 2.4, 2.5.1 and 3.3), in the order of the checks.
use Rattle.std.specs.Prelude.{◌≡◌, ◌<◌, true, false, List, [], ◌∷◌, length, None}
use Rattle.std.specs.List.{Any}
use Rattle.values.specs.Types.{type_at}
use Rattle.schema.specs.declared.code.Code.{Code}
use Rattle.schema.specs.declared.code.Code.TheVariants.{ObjectClassViolation, ConstraintViolation}
use Rattle.schema.specs.Classes.{class_of, class_at}
use Rattle.schema.specs.Conf.{Conf}
use Rattle.entries.specs.Entries.{Attributes, values_of}
use Rattle.entries.specs.EntryClasses.{has_class, has_type, is_allowed, classes_of, defines_classes}

-- what may be wrong with it
pub data EntryFlaw : Type 0 where
  -- it has no objectClass
  NoObjectClass : EntryFlaw
  -- a value of objectClass names no class
  UnknownClass : EntryFlaw
  -- it has no value of a type that one of its classes, or a superclass of one, requires (MUST)
  LacksType : EntryFlaw
  -- it has a type that none of them allows (MUST or MAY), that is not operational, and not objectClass
  TypeNotAllowed : EntryFlaw
  -- it has more values than one of a SINGLE-VALUE type
  ManyValues : EntryFlaw

-- whether an entry with these attributes has a flaw; its classes are looked at where the configuration defines some
abbrev pub HasEntryFlaw : Conf → Attributes → EntryFlaw → Type 0
HasEntryFlaw conf attrs NoObjectClass = has_class attrs ≡ false
HasEntryFlaw conf attrs UnknownClass = (defines_classes conf ≡ true) × Any (λ v. class_of conf.classes v ≡ None) (values_of attrs 0)
HasEntryFlaw conf attrs LacksType =
    (defines_classes conf ≡ true) × Any (λ c. Any (λ t. has_type attrs t ≡ false) (class_at conf.classes c).must) (classes_of conf attrs)
HasEntryFlaw conf attrs TypeNotAllowed =
    (defines_classes conf ≡ true) × Any (λ a. is_allowed conf (classes_of conf attrs) a.0 ≡ false) attrs
HasEntryFlaw conf attrs ManyValues = Any (λ a. ((type_at conf.types a.0).single_value ≡ true) × (1 < length a.1)) attrs

-- the code of each
abbrev pub entry_flaw_code : EntryFlaw → Code
entry_flaw_code NoObjectClass = ObjectClassViolation
entry_flaw_code UnknownClass = ObjectClassViolation
entry_flaw_code LacksType = ObjectClassViolation
entry_flaw_code TypeNotAllowed = ObjectClassViolation
entry_flaw_code ManyValues = ConstraintViolation

-- the order of the checks
abbrev pub entry_order : List EntryFlaw
entry_order = NoObjectClass ∷ UnknownClass ∷ LacksType ∷ TypeNotAllowed ∷ ManyValues ∷ []
