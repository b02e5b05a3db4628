use Rattle.std.proofs.Common.{◌≡◌, ℕ, ◌+◌, ◌++◌, ◌∷◌, [], List, Bool, not, cond, take, sym, ap, ◌∙◌, append-nil}
use Rattle.std.specs.Str.{bytes_eq}
use Rattle.std.proofs.lemmas.List.Elements.{filter-append}
use Rattle.values.specs.Norms.{but_norm}
use Rattle.values.proofs.Taken.{one_taken, all_taken}
use Rattle.values.proofs.shared_chunks.copy_others.Goals as goal
use Rattle.values.proofs.shared_chunks.copy_others.Goals.{then-ne+in_ok-copy+in_ok-push, else-ne}

pub loop-value-preserved : goal.loop-value-preserved
loop-value-preserved c =
    let norm = c.args.norm.now in
    let value = c.value-item.result in
    let before = but_norm norm (take c.loop-value.value-index c.as_slice-value-items.result.now) in
    let last = λ (b : Bool). cond b (value ∷ []) [] in
    let test : not (bytes_eq value.norm norm) ≡ c.ne.result = sym (c.ne.ensures ∙ ap (λ (bs : List ℕ). not (bytes_eq bs norm)) c.norm.ensures) in
    let more : but_norm norm (take (c.loop-value.value-index + 1) c.as_slice-value-items.result.now) ≡ before ++ last c.ne.result =
    ap (but_norm norm) (one_taken _ c.loop-value.value-index value c.loop-value-test.true c.value-item.is)
    ∙ filter-append _ (take c.loop-value.value-index c.as_slice-value-items.result.now) (value ∷ [])
    ∙ ap (λ b. before ++ last b) test
    in
    elim c.if-ne.branch [
      | then-ne+in_ok-copy+in_ok-push w ↦
          ap (λ v. v.items) w.others-is ∙ w.in_ok-push.ensures.items ∙ (λ i. c.loop-value.invariant i ++ w.in_ok-copy.ensures i ∷ []) ∙ sym (more ∙ ap (λ b. before ++ last b) w.if-ne.true)
      | else-ne w ↦ ap (λ v. v.items) w.others-is ∙ c.loop-value.invariant ∙ sym (more ∙ ap (λ b. before ++ last b) w.if-ne.false ∙ append-nil before)
    ]

pub returns : goal.returns
returns c = c.loop-value.invariant ∙ ap (but_norm c.args.norm.now) (all_taken _ c.loop-value.value-index _ c.as_slice-value-items.ensures.value c.loop-value-test.false)
