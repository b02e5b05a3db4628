-- What is found for an entry as a whole.
use Rattle.std.specs.Prelude.{◌≡◌, ℕ, ◌<◌, true, false, List, [], ◌∷◌, ◌++◌, length, Option, Some, None, Result, Ok, Err}
use Rattle.std.specs.Option.{option_map}
use Rattle.std.specs.List.{AllByRecursion, slice_get}
use Rattle.schema.specs.declared.object_class.ObjectClass.{ObjectClass}
use Rattle.schema.specs.Classes.{class_of}
use Rattle.schema.specs.Conf.{Conf}
use Rattle.schema.specs.Superclasses.{has_number, is_required}
use Rattle.entries.specs.Entries.{Attributes}
use Rattle.entries.specs.EntryClasses.{are_classes, named_classes, has_type}
use Rattle.entries.specs.inner.ClassChecks.{has_all_required}
use Rattle.reasons.specs.declared.reason.EntryReason.{EntryReason}
use Rattle.reasons.specs.EntryFlaws.{EntryFlaw, UnknownClass, LacksType, TypeNotAllowed, HasEntryFlaw}
use Rattle.reasons.specs.Reasons.{entry_flaw_of, IsSoOfEntry}
use Rattle.reasons.specs.inner.Found.{FindsFirst}

-- the checks of its classes
abbrev pub class_order : List EntryFlaw
class_order = UnknownClass ∷ LacksType ∷ TypeNotAllowed ∷ []

-- the classes that these values name, or the index of one that names none
abbrev pub NamesClasses : {V : Type 0} (items : V → List ℕ) → List ObjectClass → List (List ℕ) → Result V ℕ → Type 0
NamesClasses items classes vs (Ok named) =
    (are_classes classes vs ≡ true) × (items named ≡ named_classes classes vs) × AllByRecursion (λ c. c < length classes) (items named)
NamesClasses items classes vs (Err index) = (v : List ℕ) × (slice_get vs index ≡ Some v) × (class_of classes v ≡ None)

-- one of these classes asks for a type that isn't there, or none does
abbrev pub LacksIn : Conf → Attributes → List ℕ → Option (ℕ × ℕ) → Type 0
LacksIn conf attrs named None = has_all_required conf.classes attrs named ≡ true
LacksIn conf attrs named (Some p) =
    (p.0 < length conf.classes) × (has_number named p.0 ≡ true) × (is_required conf.classes p.0 p.1 ≡ true) × (has_type attrs p.1 ≡ false)

abbrev pub AreSoOfEntry : Conf → Attributes → Option EntryReason → Type 0
AreSoOfEntry conf attrs None = Unit {0}
AreSoOfEntry conf attrs (Some why) = IsSoOfEntry conf attrs why

-- the first flaw of these, with what it is of, or that none of them is there
pub record FindsInEntry (conf : Conf) (attrs : Attributes) (order : List EntryFlaw) (found : Option EntryReason) : Type 0 where
  pub first : FindsFirst (HasEntryFlaw conf attrs) order (option_map entry_flaw_of found)
  pub so : AreSoOfEntry conf attrs found

-- so many values of all are gone through, and these are left
pub record IsBehind (index : ℕ) (rest all : List (List ℕ)) : Type 0 where
  pub done : List (List ℕ)
  pub count : length done ≡ index
  pub all_are : all ≡ done ++ rest
