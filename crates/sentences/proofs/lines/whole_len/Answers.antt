use Rattle.std.proofs.Common.{◌≡◌, true, false, sym, subst, List, ℕ, ◌∙◌, arith}
use Rattle.sentences.specs.Cuts.{is_inside}
use Rattle.sentences.proofs.Cut.{whole_len_step, whole_len_boundary}
use Rattle.sentences.proofs.lines.whole_len.Goals as goal

pub loop-len-preserved : goal.loop-len-preserved
loop-len-preserved c =
    let inside : is_inside c.args.text.now c.loop-len.len ≡ true =
    subst (λ (t : List ℕ). is_inside t c.loop-len.len ≡ true) c.as_bytes.ensures.value (sym c.is_inside.ensures ∙ c.loop-len-test.true) in
    record {
      bounded = omega arith;
      same = sym (whole_len_step c.args.text.now c.loop-len.len inside) ∙ c.loop-len.invariant.same;
    }

pub returns-clause-boundary : goal.returns-clause-boundary
returns-clause-boundary c = λ short.
    let outside : is_inside c.args.text.now c.loop-len.len ≡ false =
    subst (λ (t : List ℕ). is_inside t c.loop-len.len ≡ false) c.as_bytes.ensures.value (sym c.is_inside.ensures ∙ c.loop-len-test.false) in
    whole_len_boundary c.args.text.now c.loop-len.len c.utf8.text (omega (arith, short)) outside
