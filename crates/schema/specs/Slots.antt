-- Which values are to be found quickly, and by what: slots, their order, and which ones can be kept.
use Rattle.std.specs.Prelude.{◌≡◌, ℕ, Bool, true, is_some, List}
use Rattle.std.specs.declared.cmp.Ordering.{Ordering}
use Rattle.std.specs.Ordering.{nat_cmp, ordering_then, is_eq}
use Rattle.values.specs.declared.types.AttributeType.{AttributeType}
use Rattle.values.specs.Types.{type_at, is_known}
use Rattle.schema.specs.declared.slots.IndexKind.{IndexKind}
use Rattle.schema.specs.declared.slots.IndexKind.TheVariants.{Equality, Presence, Substrings}
use Rattle.schema.specs.declared.slots.Slot.{Slot}

abbrev pub kind_rank : IndexKind → ℕ
kind_rank Equality = 0
kind_rank Presence = 1
kind_rank Substrings = 2

-- by the number of the type, and then by the kind
abbrev pub slot_cmp : Slot → Slot → Ordering
slot_cmp a b = ordering_then (nat_cmp a.type_id b.type_id) (nat_cmp (kind_rank a.kind) (kind_rank b.kind))

abbrev pub same_slot : Slot → Slot → Bool
same_slot a b = is_eq (slot_cmp a b)

-- whether a type has the rule that a kind of index goes by
abbrev pub has_rule_for : AttributeType → IndexKind → Bool
has_rule_for t Equality = is_some t.equality
has_rule_for t Presence = true
has_rule_for t Substrings = t.has_substrings

abbrev pub can_be_kept : List AttributeType → Slot → Bool
can_be_kept types s = has_rule_for (type_at types s.type_id) s.kind

-- what holds of each slot of a configuration
pub record IsSlot (types : List AttributeType) (s : Slot) : Type 0 where
  pub known : is_known types s.type_id ≡ true
  pub kept : can_be_kept types s ≡ true
