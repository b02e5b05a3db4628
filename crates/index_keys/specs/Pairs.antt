-- Keys with ranks, as they are kept, as pairs.
use Rattle.std.specs.Prelude.{List, map}
use Rattle.index_keys.specs.declared.ranked_norm.RankedNorm.{RankedNorm}
use Rattle.index_keys.specs.declared.ranked_window.RankedWindow.{RankedWindow}
use Rattle.index_keys.specs.RankedKeys.{Ranked}
use Rattle.index_keys.specs.inner.Windows.{window_in, rank_in}

-- those of normal forms
abbrev pub norm_pairs : List RankedNorm → List Ranked
norm_pairs ks = map (λ k. (k.key.norm.now, k.rank)) ks

-- those of windows
abbrev pub window_pairs : List RankedWindow → List Ranked
window_pairs ks = map (λ k. (window_in k.number, rank_in k.number)) ks
