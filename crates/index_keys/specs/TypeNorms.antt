-- The normal forms of the values of a type, over many entries, and the keys that they give.
use Rattle.std.specs.Prelude.{◌≡◌, ℕ, Bool, ◌&&◌, nat_eq, List, [], ◌∷◌}
use Rattle.std.specs.List.{list_any}
use Rattle.values.specs.declared.types.AttributeType.{AttributeType}
use Rattle.schema.specs.declared.slots.IndexKind.{IndexKind}
use Rattle.entries.specs.StoredEntries.{attributes_of}
use Rattle.index_keys.specs.declared.type_norms.Numbered.{Numbered}
use Rattle.index_keys.specs.declared.type_norms.NumberedNorm.{NumberedNorm}
use Rattle.index_keys.specs.EntryKeys.{gives_key, has_key}

-- whether one of these entries has the number, and the key for the type and the kind
abbrev pub has_for : List AttributeType → List Numbered → ℕ → IndexKind → List ℕ → ℕ → Bool
has_for types es t kind q n = list_any (λ e. nat_eq n e.number && has_key types (attributes_of e.entry.now.attrs) t kind q) es

-- whether one of these normal forms is of the entry with the number, and gives the key
abbrev pub has_by : IndexKind → List NumberedNorm → List ℕ → ℕ → Bool
has_by kind ns q n = list_any (λ x. nat_eq n x.number && gives_key kind (x.norm.now ∷ []) q) ns

-- these are the normal forms of a type
abbrev pub AreNormsOf : List AttributeType → List Numbered → ℕ → List NumberedNorm → Type 0
AreNormsOf types es t ns = (kind : IndexKind) (q : List ℕ) (n : ℕ) → has_by kind ns q n ≡ has_for types es t kind q n
