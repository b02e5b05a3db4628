use Rattle.std.proofs.Common.{◌≡◌, ℕ, List, take}
use Rattle.schema.specs.declared.slots.IndexKind.TheVariants.{Substrings}
use Rattle.index_keys.specs.TypeNorms.{has_by}
use Rattle.index_keys.specs.RankedKeys.{is_among}
use Rattle.index_keys.specs.Pairs.{window_pairs}
use Rattle.index_keys.proofs.gathering.ranked_windows.Given as goal

abbrev pub invariant-loop-numbered : goal.invariant-loop-numbered
invariant-loop-numbered l = record { so_far : (q : List ℕ) (n : ℕ) → is_among (window_pairs l.all.items) q n ≡ has_by Substrings (take l.numbered-index l.norms) q n }
