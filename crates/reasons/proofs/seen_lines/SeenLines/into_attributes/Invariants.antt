use Rattle.std.proofs.Common.{◌≡◌, [], fold, map}
use Rattle.reasons.specs.inner.Lines.{TypedValue, put_typed_value}
use Rattle.reasons.proofs.seen_lines.SeenLines.into_attributes.Given as goal

abbrev pub invariant-loop-typed : goal.invariant-loop-typed
invariant-loop-typed l = record {
  can : (goal.iterator-loop-typed).can_next l.typed-iterator × (goal.iterator-loop-typed).is_finite l.typed-iterator;
  so_far : l.attrs.items ≡ fold put_typed_value [] (map (λ (x : TypedValue). x) l.yielded);
}
