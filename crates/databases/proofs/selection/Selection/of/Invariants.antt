use Rattle.std.proofs.Common.{◌≡◌, ℕ, ◌<◌, Some, map, length}
use Rattle.databases.specs.Selections.{selects, is_selected}
use Rattle.databases.proofs.selection.Selection.of.Given as goal

abbrev pub invariant-loop-number : goal.invariant-loop-number
invariant-loop-number l = record {
  len : length l.flags ≡ l.number;
  are : (t : ℕ) → t < l.number → selects (Some l.flags) t ≡ is_selected l.conf.types (map (λ w. w.now) l.words) t;
}
