-- The normal forms of an entry as it is stored are those of its content.
use Rattle.std.proofs.Common.{◌≡◌, ℕ, Bool, true, false, cond, List, [], ◌∷◌, ◌++◌, map, refl}
use Rattle.std.specs.List.{AllByRecursion}
use Rattle.values.specs.declared.types.AttributeType.{AttributeType}
use Rattle.values.specs.Values.{Value}
use Rattle.schema.specs.Values.{norm_at}
use Rattle.entries.specs.StoredEntries.{EntryAttribute, raws, attributes_of, AreNormal, IsMadeAttribute}
use Rattle.schema.specs.Subtypes.{is_subtype}
use Rattle.index_keys.specs.EntryKeys.{norms_under}
use Rattle.index_keys.specs.StoredNorms.{norms_of, stored_norms}

values_are : (types : List AttributeType) (u : ℕ) (vs : List Value) → AreNormal types u vs → norms_of vs ≡ map (norm_at types u) (raws vs)
values_are types u [] normal = refl
values_are types u (v ∷ vs) normal = λ i. normal.0 i ∷ values_are types u vs normal.1 i

attribute_is : (types : List AttributeType) (a : EntryAttribute) → IsMadeAttribute types a → (b : Bool) → cond b (norms_of a.1) [] ≡ cond b (map (norm_at types a.0) (raws a.1)) []
attribute_is types a made true = values_are types a.0 a.1 made.normal
attribute_is types a made false = refl

pub norms_are : (types : List AttributeType) (attrs : List EntryAttribute) → AllByRecursion (IsMadeAttribute types) attrs → (t : ℕ) → stored_norms types attrs t ≡ norms_under types (attributes_of attrs) t
norms_are types [] made t = refl
norms_are types (a ∷ attrs) made t = λ i. attribute_is types a made.0 (is_subtype types a.0 t) i ++ norms_are types attrs made.1 t i
