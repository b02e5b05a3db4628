use Rattle.std.proofs.Common.{◌≡◌, ◌&&◌, not, ℕ, take}
use Rattle.std.specs.FinSet as set
use Rattle.id_sets.specs.Lists.{holds}
use Rattle.dense_sets.proofs.forms.without_all.Given as goal

abbrev pub invariant-loop-id : goal.invariant-loop-id
invariant-loop-id l = (q : ℕ) → set.contains l.words q ≡ (set.contains l.initial.words q && not (holds (take l.id-index l.ids) q))
