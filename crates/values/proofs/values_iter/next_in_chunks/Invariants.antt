use Rattle.std.proofs.Common.{◌++◌, ◌≡◌, []}
use Rattle.std.specs.List.{flat_map}
use Rattle.std.specs.Slice.Iter.{iter_rest}
use Rattle.values.proofs.values_iter.next_in_chunks.Given as goal

abbrev pub invariant-loop-next : goal.invariant-loop-next
invariant-loop-next l = record {
  can : (goal.iterator-loop-next).can_next l.chunks × (goal.iterator-loop-next).is_finite l.chunks;
  none : iter_rest l.chunk ≡ [];
  rest : iter_rest l.fn.chunk ++ flat_map (λ r. r.value.items) (iter_rest l.fn.chunks) ≡ flat_map (λ r. r.value.items) (iter_rest l.chunks);
}
