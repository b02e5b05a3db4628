use Rattle.std.proofs.Common.{◌≡◌, ◌≤◌, ◌++◌, map, length}
use Rattle.index_keys.specs.inner.Fronts.{under}
use Rattle.index_keys.proofs.rows.take_ranks.Given as goal

abbrev pub invariant-loop-parts : goal.invariant-loop-parts
invariant-loop-parts g l = record {
  parts : under (g.K.RankedKey.pair l.first).0 l.ranks.items ++ map g.K.RankedKey.pair l.left ≡ under (g.K.RankedKey.pair l.fn.first).0 l.fn.ranks.items ++ map g.K.RankedKey.pair l.fn.keys;
  fewer : length l.left ≤ length l.fn.keys;
}

abbrev pub decreases-loop-parts : goal.decreases-loop-parts
decreases-loop-parts g l = length l.left
