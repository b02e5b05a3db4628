use Rattle.std.proofs.Common.{◌≡◌, drop}
use Rattle.std.specs.Prelude.{nat_eq}
use Rattle.std.specs.List.{list_any}
use Rattle.differences.specs.inner.LentAttributes.{all_lent}
use Rattle.differences.proofs.blocks.stands_from.Given as goal

abbrev pub invariant-loop-i : goal.invariant-loop-i
invariant-loop-i l = list_any (λ x. nat_eq l.t x.0) (drop l.from (all_lent l.attrs)) ≡ list_any (λ x. nat_eq l.t x.0) (drop l.i (all_lent l.attrs))
