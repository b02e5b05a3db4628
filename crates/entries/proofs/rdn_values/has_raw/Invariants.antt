use Rattle.std.proofs.Common.{◌≡◌}
use Rattle.std.specs.List.{list_any}
use Rattle.std.specs.Str.{bytes_eq}
use Rattle.values.specs.Values.{Value}
use Rattle.entries.specs.Entries.{values_of}
use Rattle.entries.proofs.rdn_values.has_raw.Given as goal

abbrev pub invariant-loop-value : goal.invariant-loop-value
invariant-loop-value l = record {
  can : (goal.iterator-loop-value).can_next l.value-iterator × (goal.iterator-loop-value).is_finite l.value-iterator;
  rest : list_any (λ (v : Value). bytes_eq v.raw l.raw) l.value-iterator ≡ list_any (λ (v : Value). bytes_eq v.raw l.raw) (values_of l.attrs.entries l.fn.t);
}
