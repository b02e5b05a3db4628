-- What may be wrong with a block of a modify, and with one of its values (RFC 4511, 4.6), in the order of the checks; and what the blocks make.
use Rattle.std.specs.Prelude.{◌≡◌, ◌≢◌, ℕ, true, false, not, List, [], ◌∷◌, ◌++◌, fold, take, Option, Some, None}
use Rattle.std.specs.List.{list_any, filter, slice_get}
use Rattle.ldif.specs.declared.record.Mod.{Mod}
use Rattle.ldif.specs.declared.record.Op.{Op}
use Rattle.ldif.specs.declared.record.Op.TheVariants as ops
use Rattle.values.specs.declared.types.AttributeType.{AttributeType}
use Rattle.values.specs.Types.{type_of, type_at, has_equality}
use Rattle.schema.specs.declared.code.Code.{Code}
use Rattle.schema.specs.declared.code.Code.TheVariants.{ProtocolError, NoSuchAttribute, UndefinedAttributeType, InappropriateMatching, ConstraintViolation, AttributeOrValueExists, InvalidAttributeSyntax}
use Rattle.schema.specs.Values.{is_valid_at, are_equal}
use Rattle.entries.specs.Entries.{Attributes, values_of, has_equal}
use Rattle.entries.specs.Modifies.{set_values}

-- ---- the entry that blocks make

-- the values of a type when these of a block have come: behind those that were there, or instead of those that equal one, or instead of all
abbrev pub values_with : List AttributeType → ℕ → Op → List (List ℕ) → List (List ℕ) → List (List ℕ)
values_with types t ops.Add old vs = old ++ vs
values_with types t ops.Delete old vs = filter (λ w. not (list_any (are_equal types t w) vs)) old
values_with types t ops.Replace old vs = vs

-- when all of a block's have come; a delete without values takes all
abbrev pub values_after : List AttributeType → ℕ → Op → List (List ℕ) → List (List ℕ) → List (List ℕ)
values_after types t ops.Add old vs = values_with types t ops.Add old vs
values_after types t ops.Delete old [] = []
values_after types t ops.Delete old (v ∷ vs) = values_with types t ops.Delete old (v ∷ vs)
values_after types t ops.Replace old vs = values_with types t ops.Replace old vs

-- the same in place of those that were there, if the type is known
abbrev pub with_block : List AttributeType → Attributes → Mod → Option ℕ → Attributes
with_block types attrs m None = attrs
with_block types attrs m (Some t) = set_values attrs t (values_after types t m.op (values_of attrs t) m.values)

-- the attributes behind a block; one of a type that isn't known changes none
abbrev pub after_block : List AttributeType → Attributes → Mod → Attributes
after_block types attrs m = with_block types attrs m (type_of types m.attr)

-- what all blocks make, in order
abbrev pub modified : List AttributeType → Attributes → List Mod → Attributes
modified types attrs blocks = fold (after_block types) attrs blocks

-- ---- a block, where these are the attributes before it

-- what may be wrong with it
pub data BlockFlaw : Type 0 where
  -- no type has its name
  UnknownType : BlockFlaw
  -- users can't change values of its type
  UsersCantChange : BlockFlaw
  -- it is to add, and has no values
  NoValues : BlockFlaw
  -- it has to compare values, and its type has no equality rule
  NoEquality : BlockFlaw
  -- it is to delete from an attribute that isn't there
  NoAttribute : BlockFlaw

-- it names this type
abbrev pub IsOfType : List AttributeType → Mod → ℕ → Type 0
IsOfType types m t = type_of types m.attr ≡ Some t

-- whether it compares: an add its values with those that are there, a delete those with its own; a replace compares with none that was there
abbrev pub Compares : Op → List (List ℕ) → List (List ℕ) → Type 0
Compares ops.Add old vs = old ≢ []
Compares ops.Delete old vs = vs ≢ []
Compares ops.Replace old vs = ⊥

-- whether it has a flaw
abbrev pub HasBlockFlaw : List AttributeType → Attributes → Mod → BlockFlaw → Type 0
HasBlockFlaw types attrs m UnknownType = type_of types m.attr ≡ None
HasBlockFlaw types attrs m UsersCantChange = (t : ℕ) × IsOfType types m t × ((type_at types t).is_fixed ≡ true)
HasBlockFlaw types attrs m NoValues = (m.op ≡ ops.Add) × (m.values ≡ [])
HasBlockFlaw types attrs m NoEquality =
    (t : ℕ) × IsOfType types m t × Compares m.op (values_of attrs t) m.values × (has_equality types t ≡ false)
HasBlockFlaw types attrs m NoAttribute = (t : ℕ) × IsOfType types m t × (m.op ≡ ops.Delete) × (values_of attrs t ≡ [])

-- the code of each
abbrev pub block_flaw_code : BlockFlaw → Code
block_flaw_code UnknownType = UndefinedAttributeType
block_flaw_code UsersCantChange = ConstraintViolation
block_flaw_code NoValues = ProtocolError
block_flaw_code NoEquality = InappropriateMatching
block_flaw_code NoAttribute = NoSuchAttribute

-- the order of the checks, before those of the values
abbrev pub block_order : List BlockFlaw
block_order = UnknownType ∷ UsersCantChange ∷ NoValues ∷ NoEquality ∷ NoAttribute ∷ []

-- ---- the value of a block with an index, from 0 on

-- what may be wrong with it
pub data ValueFlaw : Type 0 where
  -- its type has no such value
  BadSyntax : ValueFlaw
  -- it is to come, and an equal one is there or comes before it
  EqualValue : ValueFlaw
  -- it is to go, and no equal one is there, or it went for a value before it
  NoValue : ValueFlaw

-- it is this value, of this type, and by its turn these values of the type are there
pub record IsValue (types : List AttributeType) (attrs : Attributes) (m : Mod) (i t : ℕ) (v : List ℕ) (there : List (List ℕ)) : Type 0 where
  pub value : slice_get m.values i ≡ Some v
  pub type_id : IsOfType types m t
  pub by_then : there ≡ values_with types t m.op (values_of attrs t) (take i m.values)

-- whether it has a flaw
abbrev pub HasValueFlaw : List AttributeType → Attributes → Mod → ℕ → ValueFlaw → Type 0
HasValueFlaw types attrs m i BadSyntax =
    (t : ℕ) × (v : List ℕ) × (there : List (List ℕ)) × IsValue types attrs m i t v there × (is_valid_at types t v ≡ false)
HasValueFlaw types attrs m i EqualValue =
    (t : ℕ) × (v : List ℕ) × (there : List (List ℕ)) × IsValue types attrs m i t v there
    × (m.op ≢ ops.Delete) × (has_equal types t v there ≡ true)
HasValueFlaw types attrs m i NoValue =
    (t : ℕ) × (v : List ℕ) × (there : List (List ℕ)) × IsValue types attrs m i t v there
    × (m.op ≡ ops.Delete) × (has_equal types t v there ≡ false)

-- the code of each
abbrev pub value_flaw_code : ValueFlaw → Code
value_flaw_code BadSyntax = InvalidAttributeSyntax
value_flaw_code EqualValue = AttributeOrValueExists
value_flaw_code NoValue = NoSuchAttribute
