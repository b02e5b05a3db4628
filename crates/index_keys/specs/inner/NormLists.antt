-- Lists of normal forms, each with the number of the entry that has it.
use Rattle.std.specs.Prelude.{◌≡◌, ℕ, ◌&&◌, ◌||◌, nat_eq, List}
use Rattle.schema.specs.declared.slots.IndexKind.{IndexKind}
use Rattle.index_keys.specs.declared.type_norms.NumberedNorm.{NumberedNorm}
use Rattle.index_keys.specs.EntryKeys.{gives_key}
use Rattle.index_keys.specs.TypeNorms.{has_by}

-- the entry with the number has the keys that these normal forms give, and all else is as it was
abbrev pub AddsNorms : List (List ℕ) → ℕ → List NumberedNorm → List NumberedNorm → Type 0
AddsNorms norms number old new = (kind : IndexKind) (q : List ℕ) (n : ℕ) → has_by kind new q n ≡ (has_by kind old q n || (nat_eq n number && gives_key kind norms q))
