use Rattle.std.proofs.Common.{◌++◌, ◌∷◌, [], sym, ◌∙◌}
use Rattle.values.proofs.Taken.{one_taken, all_taken}
use Rattle.values.proofs.shared_chunks.copy_chunk.Goals as goal

pub loop-value-preserved : goal.loop-value-preserved
loop-value-preserved c =
    c.in_ok-push.ensures.items ∙ (λ i. c.loop-value.invariant i ++ c.in_ok-copy.ensures i ∷ []) ∙ sym (one_taken _ c.loop-value.value-index c.value-item.result c.loop-value-test.true c.value-item.is)

pub returns : goal.returns
returns c = c.loop-value.invariant ∙ all_taken _ c.loop-value.value-index _ c.as_slice-value-items.ensures.value c.loop-value-test.false
