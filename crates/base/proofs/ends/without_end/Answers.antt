use Rattle.std.proofs.Common.{◌≡◌, ◌∙◌, sym, ap, take, arith}
use Rattle.std.proofs.lemmas.Bool.{ne_eqb}
use Rattle.base.specs.Ends.{without_end}
use Rattle.base.proofs.LastByte.{one_less, no_less}
use Rattle.base.proofs.ends.without_end.Goals as goal
use Rattle.base.proofs.ends.without_end.Goals.{then-loop-len-test+else-text-len-eq32, else-loop-len-test}

pub loop-len-preserved : goal.loop-len-preserved
loop-len-preserved c = record {
  within = omega arith;
  same = one_less c.args.text.now c.loop-len.len (omega arith) c.loop-len.invariant.within c.if-text-len-eq32.true ∙ c.loop-len.invariant.same;
}

pub returns : goal.returns
returns c =
    elim c.loop-len-test.branch [
      | then-loop-len-test+else-text-len-eq32 w ↦ sym (no_less c.args.text.now c.loop-len.len (omega arith) c.loop-len.invariant.within (ne_eqb _ _ w.if-text-len-eq32.false)) ∙ c.loop-len.invariant.same
      | else-loop-len-test w ↦ (let z : c.loop-len.len ≡ 0 = omega arith in ap (λ n. take n c.args.text.now) z ∙ sym (ap (λ n. without_end (take n c.args.text.now)) z) ∙ c.loop-len.invariant.same)
    ]
