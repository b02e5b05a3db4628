use Rattle.std.proofs.Common.{◌≡◌, ◌&&◌, ◌||◌, ℕ, List, nat_eq, length}
use Rattle.std.specs.List.{list_any}
use Rattle.std.specs.Str.{bytes_eq}
use Rattle.index_keys.specs.EntryKeys.{windows}
use Rattle.index_keys.specs.RankedKeys.{is_among}
use Rattle.index_keys.specs.Pairs.{window_pairs}
use Rattle.index_keys.proofs.gathering.push_windows.Given as goal

abbrev pub invariant-loop-first : goal.invariant-loop-first
invariant-loop-first l = record {
  rest : (q : List ℕ) (n : ℕ) → (is_among (window_pairs l.all.items) q n || (nat_eq n l.rank && list_any (λ k. bytes_eq k q) (windows l.left))) ≡ (is_among (window_pairs l.fn.all.items) q n || (nat_eq n l.rank && list_any (λ k. bytes_eq k q) (windows l.text)));
}

abbrev pub decreases-loop-first : goal.decreases-loop-first
decreases-loop-first l = length l.left
