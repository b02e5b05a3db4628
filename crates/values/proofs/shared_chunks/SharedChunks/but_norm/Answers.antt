use Rattle.std.proofs.Common.{◌++◌, ◌∷◌, [], List, take, sym, ap, ◌∙◌, append-nil}
use Rattle.std.proofs.lemmas.Result.{IfOk-from_err}
use Rattle.std.proofs.lemmas.List.Concat.{flat_map-append}
use Rattle.std.proofs.lemmas.List.Elements.{filter-append}
use Rattle.std.specs.List.{flat_map}
use Rattle.values.proofs.Taken.{one_taken, all_taken}
use Rattle.values.specs.Norms.{but_norm}
use Rattle.values.specs.Values.{Value}
use Rattle.values.proofs.shared_chunks.SharedChunks.but_norm.Goals as goal

pub loop-chunk-preserved : goal.loop-chunk-preserved
loop-chunk-preserved c =
    let norm = c.args.norm.now in
    let chunks = c.as_slice-chunk-items.result.now in
    let chunk = c.chunk-item.result in
    let before = take c.loop-chunk.chunk-index chunks in
    let values = flat_map (λ r. r.value.items) before in
    c.in_ok-push_others.ensures
    ∙ ap (λ (vs : List Value). vs ++ but_norm norm chunk.value.items) c.loop-chunk.invariant
    ∙ sym (ap (λ rs. but_norm norm (flat_map (λ r. r.value.items) rs)) (one_taken chunks c.loop-chunk.chunk-index chunk c.loop-chunk-test.true c.chunk-item.is)
    ∙ ap (but_norm norm) (flat_map-append (λ r. r.value.items) before (chunk ∷ []) ∙ ap (λ (vs : List Value). values ++ vs) (append-nil chunk.value.items))
    ∙ filter-append _ values chunk.value.items)

pub returns : goal.returns
returns c =
    c.loop-chunk.invariant ∙ ap (but_norm c.args.norm.now) (ap (flat_map (λ r. r.value.items)) (all_taken _ c.loop-chunk.chunk-index c.self.inside.chunks.items c.as_slice-chunk-items.ensures.value c.loop-chunk-test.false) ∙ c.self.view_is)

pub returns-in_err-push_others : goal.returns-in_err-push_others
returns-in_err-push_others c = IfOk-from_err _ _ c.from_residual-in_err-push_others.ensures.0
