use Rattle.std.proofs.Common.{◌≡◌, ◌++◌, not}
use Rattle.std.specs.Prelude.{filter}
use Rattle.std.specs.BTreeSet.{contains}
use Rattle.std.specs.Cmp.Lexicographic.{slice_cmp}
use Rattle.std.specs.Ordering.{nat_cmp}
use Rattle.values.specs.Values.{Value}
use Rattle.reasons.proofs.changed_values.left.Given as goal

abbrev pub invariant-loop-value : goal.invariant-loop-value
invariant-loop-value l = record {
  can : (goal.iterator-loop-value).can_next l.value-iterator × (goal.iterator-loop-value).is_finite l.value-iterator;
  rest : l.some ++ filter (λ (v : Value). not (contains (slice_cmp nat_cmp) l.gone v.norm)) l.value-iterator ≡ filter (λ (v : Value). not (contains (slice_cmp nat_cmp) l.gone v.norm)) l.fn.values;
}
