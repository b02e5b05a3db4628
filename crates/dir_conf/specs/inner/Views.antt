-- What was read of a configuration, as contracts see it.
use Rattle.std.specs.Prelude.{ℕ, ◌<◌, List, [], ◌∷◌, ◌++◌, length, Option, Some, None, Result, Ok, Err}
use Rattle.values.specs.declared.types.AttributeType.{AttributeType}
use Rattle.schema.specs.declared.object_class.ObjectClass.{ObjectClass}
use Rattle.schema.specs.declared.slots.Slot.{Slot}
use Rattle.schema.specs.Rdns.{TypedRdn}
use Rattle.dir_conf.specs.declared.conf_fault.ConfFaultKind.TheVariants.{Suffix}
use Rattle.dir_conf.specs.ConfFaults.{At}
use Rattle.base.specs.Answers.{◌>>=◌}
use Rattle.definitions.specs.declared.lines.Line.{Line}
use Rattle.dir_conf.specs.IndexLines.{in_order}
use Rattle.dir_conf.specs.Configurations as configurations
use Rattle.dir_conf.specs.declared.defined.Defined.{Defined}
use Rattle.dir_conf.specs.declared.defined.Addition.{Addition}
use Rattle.dir_conf.specs.declared.defined.Addition.TheVariants.{Nothing, OneType, OneClass}
use Rattle.dir_conf.specs.declared.later_lines.Found.{Found}

-- the types and the classes that lines define
abbrev pub defined_view : Defined → configurations.Defined
defined_view d = record { types = d.types; classes = d.classes }

-- these types, and one more where there is one
abbrev pub and_type : List AttributeType → Option AttributeType → List AttributeType
and_type types None = types
and_type types (Some new) = types ++ new ∷ []

-- what is defined, and one more class where there is one
abbrev pub and_class : configurations.Defined → Option ObjectClass → configurations.Defined
and_class s None = s
and_class s (Some new) = record s { classes = s.classes ++ new ∷ [] }

-- what is defined, and what a line adds
abbrev pub and_added : configurations.Defined → Addition → configurations.Defined
and_added s Nothing = s
and_added s (OneType new) = record s { types = s.types ++ new ∷ [] }
and_added s (OneClass new) = record s { classes = s.classes ++ new ∷ [] }

-- so many types leave room for what a line adds
abbrev pub HasRoom : ℕ → Addition → Type 0
HasRoom count Nothing = Unit {0}
HasRoom count (OneType new) = count < 65535
HasRoom count (OneClass new) = Unit {0}

-- the suffix and the slots that lines say
abbrev pub found_view : Found → configurations.Found
found_view f = record { suffix = f.suffix; slots = f.slots.items }

-- the suffix, which has to be there, and the slots
abbrev pub both : Option (List TypedRdn) → List Slot → Result (List TypedRdn × List Slot) At
both None slots = Err (0, Suffix)
both (Some suffix) slots = Ok (suffix, slots)

-- those that lines say, the slots in order
abbrev pub suffix_and_slots : List AttributeType → List Line → Result (List TypedRdn × List Slot) At
suffix_and_slots types ls = configurations.found_in types configurations.none_found ls >>= λ f. both f.suffix (in_order (length types) f.slots)
