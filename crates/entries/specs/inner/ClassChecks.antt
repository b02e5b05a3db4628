-- What an entry's classes ask, class by class of those that it names, each with its superclasses.
use Rattle.std.specs.Prelude.{ℕ, Bool, ◌&&◌, ◌||◌, List, nat_eq}
use Rattle.std.specs.List.{list_any, list_all}
use Rattle.values.specs.Types.{type_at}
use Rattle.schema.specs.Conf.{Conf}
use Rattle.schema.specs.declared.object_class.ObjectClass.{ObjectClass}
use Rattle.schema.specs.Superclasses.{lineage, is_named, is_extensible}
use Rattle.entries.specs.Contents.{Attributes}
use Rattle.entries.specs.EntryClasses.{has_required}

abbrev pub has_all_required : List ObjectClass → Attributes → List ℕ → Bool
has_all_required classes attrs named = list_all (λ c. has_required classes attrs (lineage classes c)) named

abbrev pub is_allowed_by : List ObjectClass → List ℕ → ℕ → Bool
is_allowed_by classes named t = list_any (λ c. is_extensible classes c || is_named classes c t) named

abbrev pub may_have : Conf → List ℕ → ℕ → Bool
may_have conf named t = nat_eq t 0 || ((type_at conf.types t).is_operational || is_allowed_by conf.classes named t)

abbrev pub may_have_all : Conf → List ℕ → Attributes → Bool
may_have_all conf named attrs = list_all (λ a. may_have conf named a.0) attrs

-- an entry is as these classes ask, each with its superclasses
abbrev pub fits_each : Conf → List ℕ → Attributes → Bool
fits_each conf named attrs = has_all_required conf.classes attrs named && may_have_all conf named attrs
