-- Attributes that are lent.
use Rattle.std.specs.Prelude.{ℕ, ◌<◌, Bool, false, nat_eq, List, [], ◌∷◌, map, length, if◌then◌else◌}
use Rattle.std.specs.List.{All, AllByRecursion, list_any}
use Rattle.values.specs.declared.types.AttributeType.{AttributeType}
use Rattle.entries.specs.Entries.{Attribute, Attributes}
use Rattle.entries.specs.StoredEntries.{EntryAttribute}
use Rattle.differences.specs.declared.attributes.UserAttribute.{UserAttribute}
use Rattle.ldif.specs.Attrs.{Attr}
use Rattle.differences.specs.EntryChanges.{Values, Block, blocks_at, deleting}
use Rattle.differences.specs.inner.Cuts.{texts}

abbrev pub lent : UserAttribute → Attribute
lent a = (a.t.now, texts a.values.items)

abbrev pub all_lent : List UserAttribute → Attributes
all_lent attrs = map lent attrs

abbrev pub AreLentKnown : List AttributeType → List UserAttribute → Type 0
AreLentKnown types attrs = All (λ a. a.t.now < length types) attrs

-- whether a type of the first list may still stay
abbrev pub goes_on : Attributes → Attributes → Bool
goes_on before [] = false
goes_on before (b ∷ bs) = list_any (λ x. nat_eq b.0 x.0) before

-- the blocks for the first of each
abbrev pub first_blocks : List AttributeType → Attribute → Attribute → List Block
first_blocks types a b = if nat_eq a.0 b.0 then blocks_at types a.0 a.1 b.1 else deleting a ∷ []

-- a line for each value under one name
abbrev pub named_lines : List ℕ → Values → List Attr
named_lines name vs = map (λ v. record { name = name; value = v }) vs

abbrev pub AreStoredKnown : List AttributeType → List EntryAttribute → Type 0
AreStoredKnown types attrs = AllByRecursion (λ a. a.0 < length types) attrs
