use Rattle.std.proofs.Common.{◌++◌, ◌∷◌, [], take, sym, ap, ◌∙◌}
use Rattle.std.specs.List.{flat_map}
use Rattle.std.proofs.lemmas.List.Concat.{flat_map-append}
use Rattle.values.proofs.Taken.{one_taken, all_taken}
use Rattle.values.proofs.shared_chunks.SharedChunks.copy.Goals as goal

pub loop-chunk-preserved : goal.loop-chunk-preserved
loop-chunk-preserved c =
    let chunks = c.as_slice-chunk-items.result.now in
    let chunk = c.chunk-item.result in
    ap (flat_map (λ r. r.value.items)) c.in_ok-push.ensures.items
    ∙ flat_map-append (λ r. r.value.items) c.loop-chunk.chunks.items (c.in_ok-clone.field-0 ∷ [])
    ∙ (λ i. c.loop-chunk.invariant i ++ ((c.in_ok-clone.ensures.cases i).items ++ []))
    ∙ sym (flat_map-append (λ r. r.value.items) (take c.loop-chunk.chunk-index chunks) (chunk ∷ []))
    ∙ sym (ap (flat_map (λ r. r.value.items)) (one_taken chunks c.loop-chunk.chunk-index chunk c.loop-chunk-test.true c.chunk-item.is))

pub returns : goal.returns
returns c =
    c.loop-chunk.invariant ∙ ap (flat_map (λ r. r.value.items)) (all_taken _ c.loop-chunk.chunk-index c.self.inside.chunks.items c.as_slice-chunk-items.ensures.value c.loop-chunk-test.false) ∙ c.self.view_is
