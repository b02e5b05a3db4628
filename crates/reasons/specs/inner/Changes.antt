-- The values of a type while a block of a modify changes them.
use Rattle.std.specs.Prelude.{◌≡◌, ℕ, Bool, not, ◌&&◌, ◌||◌, List, [], ◌∷◌, ◌++◌, filter, Option, Some, None, Result, Ok, Err, if◌then◌else◌}
use Rattle.std.specs.BTreeSet.{BTreeSet, contains}
use Rattle.std.specs.Cmp.Lexicographic.{slice_cmp}
use Rattle.std.specs.Ordering.{nat_cmp}
use Rattle.ldif.specs.declared.record.Mod.{Mod}
use Rattle.ldif.specs.declared.record.Op.{Op}
use Rattle.ldif.specs.declared.record.Op.TheVariants as ops
use Rattle.values.specs.Norms.{has_norm}
use Rattle.values.specs.Types.{type_of, has_equality}
use Rattle.values.specs.Values.{Value}
use Rattle.values.specs.declared.types.AttributeType.{AttributeType}
use Rattle.entries.specs.Entries.{Attributes}
use Rattle.entries.specs.StoredEntries.{raws, AreNormal}
use Rattle.reasons.specs.declared.changed_values.ChangedValues.{ChangedValues}
use Rattle.reasons.specs.declared.reason.BlockReason.{BlockReason}
use Rattle.reasons.specs.BlockFlaws.{BlockFlaw, NoValues, NoEquality, NoAttribute, ValueFlaw, BadSyntax, EqualValue, NoValue, HasBlockFlaw, block_order}
use Rattle.reasons.specs.Reasons.{block_flaw_of}
use Rattle.reasons.specs.inner.Found.{FindsFirst}

-- a set has the normal form of each value, and no other
pub record HasNormsOf (norms : BTreeSet (List ℕ)) (vs : List Value) : Type 0 where
  pub each : (n : List ℕ) → contains (slice_cmp nat_cmp) norms n ≡ has_norm n vs

-- these values were there before, and these of the block are looked at
pub record KeepsValues (types : List AttributeType) (t : ℕ) (old : List Value) (done : List (List ℕ)) (changed : ChangedValues) : Type 0 where
  pub before : HasNormsOf changed.before old
  pub seen : HasNormsOf changed.seen changed.come
  pub come_are : raws changed.come ≡ done
  pub normal : AreNormal types t changed.come

-- whether a value is there by its turn, where an equal one was or wasn't before, and an equal one of the block was or wasn't looked at
abbrev pub is_there : Op → Bool → Bool → Bool
is_there ops.Add was seen = was || seen
is_there ops.Delete was seen = was && not seen
is_there ops.Replace was seen = seen

-- the flaw of a valid value
abbrev pub value_flaw : Op → Bool → Option ValueFlaw
value_flaw ops.Add there = if there then Some EqualValue else None
value_flaw ops.Delete there = if not there then Some NoValue else None
value_flaw ops.Replace there = if there then Some EqualValue else None

-- the order of the checks
abbrev pub value_order : List ValueFlaw
value_order = BadSyntax ∷ EqualValue ∷ NoValue ∷ []

-- the values behind a block
abbrev pub changed_values : Op → List Value → List Value → List Value
changed_values ops.Add old come = old ++ come
changed_values ops.Delete old [] = []
changed_values ops.Delete old (v ∷ vs) = filter (λ w. not (has_norm w.norm (v ∷ vs))) old
changed_values ops.Replace old come = come

-- the flaw of an operation on a known type that users can change, with values there or none, and with values or none
abbrev pub operation_flaw : List AttributeType → ℕ → Op → Bool → Bool → Option BlockFlaw
operation_flaw types t ops.Add there some = if not some then Some NoValues else (if there && not (has_equality types t) then Some NoEquality else None)
operation_flaw types t ops.Delete there some = if some && not (has_equality types t) then Some NoEquality else (if not there then Some NoAttribute else None)
operation_flaw types t ops.Replace there some = None

-- the first flaw of a block before its values, or its type where it has none
abbrev pub LooksAt : List AttributeType → Attributes → Mod → Result ℕ BlockReason → Type 0
LooksAt types attrs m (Ok t) = (type_of types m.attr ≡ Some t) × FindsFirst (HasBlockFlaw types attrs m) block_order None
LooksAt types attrs m (Err why) = FindsFirst (HasBlockFlaw types attrs m) block_order (Some (block_flaw_of why))
