use Rattle.std.proofs.Common.{◌≡◌, Some, take}
use Rattle.sentences.specs.declared.name_places.Due.TheVariants as dues
use Rattle.sentences.specs.inner.Dues.{due_behind}
use Rattle.sentences.proofs.name_places.name_like_len.Given as goal

abbrev pub invariant-loop-at : goal.invariant-loop-at
invariant-loop-at l = due_behind (Some dues.Type) (take l.at l.text) ≡ Some l.due
