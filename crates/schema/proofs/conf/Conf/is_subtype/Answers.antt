use Rattle.std.proofs.Common.{◌≢◌, ap, sym, ◌∙◌, arith}
use Rattle.std.proofs.lemmas.Bool.Decides.{nat_tests}
use Rattle.values.specs.declared.types.AttributeType.{AttributeType}
use Rattle.schema.proofs.Subtypes.{one_up, no_more, above_lower}
use Rattle.schema.proofs.conf.Conf.is_subtype.Goals as goal

pub loop-above-preserved : goal.loop-above-preserved
loop-above-preserved c =
    let apart : c.loop-above.at ≢ c.args.above = λ e. absurd (let t = c.loop-above-test.true in let n = c.ne.ensures in grind (arith, nat_tests)) in
    let up = ap (λ (x : AttributeType). x.superior) (sym c.at.ensures) ∙ c.in-Some.is in
    let step = one_up c.args.self.now.types c.loop-above.at c.in-Some.superior c.args.above apart up in
    let lower = above_lower c.args.self.now.types c.loop-above.at c.in-Some.superior (c.rules_are_kept.ensures.fits c.loop-above.at c.loop-above.invariant.1) up in
    let known = c.loop-above.invariant.1 in
    ((λ h. step.0 (c.loop-above.invariant.0.0 h), λ h. c.loop-above.invariant.0.1 (step.1 h)), omega (arith, lower, known))

pub returns-in-None : goal.returns-in-None
returns-in-None c =
    let apart : c.loop-above.at ≢ c.args.above = λ e. absurd (let t = c.loop-above-test.true in let n = c.ne.ensures in grind (arith, nat_tests)) in
    let none = ap (λ (x : AttributeType). x.superior) (sym c.at.ensures) ∙ c.in-None.is in
    (λ no. absurd cc, λ h. absurd (no_more c.args.self.now.types c.loop-above.at c.args.above apart none (c.loop-above.invariant.0.0 h)))
