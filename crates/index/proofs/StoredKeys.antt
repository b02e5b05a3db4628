-- What is to come at first of the keys of an entry: all that its normal forms give.
use Rattle.std.proofs.Common.{◌≡◌, ℕ, false, List, [], refl}
use Rattle.schema.specs.declared.slots.IndexKind.{IndexKind}
use Rattle.schema.specs.declared.slots.IndexKind.TheVariants.{Equality, Presence, Substrings}
use Rattle.index_keys.specs.EntryKeys.{keys_by}
use Rattle.index.specs.inner.StoredKeys.{keys_left}

pub left_at_first : (kind : IndexKind) (norms : List (List ℕ)) → keys_left kind false [] norms ≡ keys_by kind norms
left_at_first Equality norms = refl
left_at_first Presence norms = refl
left_at_first Substrings norms = refl
