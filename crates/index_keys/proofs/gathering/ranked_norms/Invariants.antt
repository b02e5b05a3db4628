use Rattle.std.proofs.Common.{◌≡◌, ℕ, List, take, drop}
use Rattle.schema.specs.declared.slots.IndexKind.TheVariants.{Equality}
use Rattle.index_keys.specs.TypeNorms.{has_by}
use Rattle.index_keys.specs.RankedKeys.{is_among, joined}
use Rattle.index_keys.specs.Pairs.{norm_pairs}
use Rattle.index_keys.proofs.gathering.ranked_norms.Given as goal

abbrev pub invariant-loop-numbered : goal.invariant-loop-numbered
invariant-loop-numbered l = record {
  so_far : (q : List ℕ) (n : ℕ) → is_among (norm_pairs l.all.items) q n ≡ has_by Equality (take l.numbered-index l.norms) q n;
  rest : l.left ≡ joined (drop l.numbered-index l.norms);
}
