-- What a configuration keeps of each object class: what it asks with all of its superclasses.
use Rattle.std.specs.Prelude.{◌≡◌, ℕ, Bool, ◌<◌, ◌||◌, false, List, [], length, nat_eq, slice_index_or}
use Rattle.std.specs.List.{list_any, AllByRecursion}
use Rattle.schema.specs.declared.object_class.ObjectClass.{ObjectClass}
use Rattle.schema.specs.declared.settled.Settled.{Settled}
use Rattle.schema.specs.Classes.{class_at}
use Rattle.schema.specs.Superclasses.{has_number, is_listed, is_required, is_named, is_extensible}

-- superclasses have lower numbers
abbrev pub AreOrdered : List ObjectClass → Type 0
AreOrdered classes = (c : ℕ) → c < length classes → AllByRecursion (λ s. s < c) (class_at classes c).superiors

abbrev pub nothing : Settled
nothing = record { required = []; allowed = []; extensible = false }

abbrev pub settled_at : List Settled → ℕ → Settled
settled_at settled c = slice_index_or settled c nothing

pub record IsSettled (classes : List ObjectClass) (c : ℕ) (s : Settled) : Type 0 where
  pub required : (t : ℕ) → has_number s.required t ≡ is_required classes c t
  pub allowed : (t : ℕ) → has_number s.allowed t ≡ is_named classes c t
  pub extensible : s.extensible ≡ is_extensible classes c

-- ---- by what is settled of its direct superclasses

-- the class or a superclass requires a type
abbrev pub is_required_by : List Settled → ObjectClass → ℕ → Bool
is_required_by above class t = has_number class.must t || list_any (λ k. has_number (settled_at above k).required t) class.superiors

-- the class or a superclass names a type
abbrev pub is_named_by : List Settled → ObjectClass → ℕ → Bool
is_named_by above class t = is_listed class t || list_any (λ k. has_number (settled_at above k).allowed t) class.superiors

pub record IsSettledBy (above : List Settled) (class : ObjectClass) (c : ℕ) (s : Settled) : Type 0 where
  pub required : (t : ℕ) → has_number s.required t ≡ is_required_by above class t
  pub allowed : (t : ℕ) → has_number s.allowed t ≡ is_named_by above class t
  pub extensible : s.extensible ≡ (nat_eq 1 c || list_any (λ k. (settled_at above k).extensible) class.superiors)

pub record AreSettled (classes : List ObjectClass) (settled : List Settled) : Type 0 where
  pub sized : length settled ≡ length classes
  pub each : (c : ℕ) → c < length classes → IsSettled classes c (settled_at settled c)
