use Rattle.std.proofs.Common.{◌++◌, ◌∷◌, [], refl, ap, sym, ◌∙◌, append_assoc, arith, length}
use Rattle.filter_text.specs.Runs.{is_star}
use Rattle.filter_text.proofs.Runs.{run_append}
use Rattle.filter_text.proofs.pieces.skip_stars.Goals as goal

pub loop-more-preserved : goal.loop-more-preserved
loop-more-preserved c =
    let old = c.loop-more.invariant.run in
    let here = c.in-Some.ensures in
    let shorter = ap (λ xs. length xs) here in
    record {
      no_longer = omega (arith, shorter, c.loop-more.invariant.no_longer);
      run = (old.0 ++ 42 ∷ [], run_append is_star old.0 (42 ∷ []) old.1 (refl, tt), old.2 ∙ ap (λ xs. old.0 ++ xs) here ∙ sym (append_assoc old.0 (42 ∷ []) c.in-Some.more.now));
    }
