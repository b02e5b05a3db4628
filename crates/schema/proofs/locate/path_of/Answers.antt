use Rattle.std.proofs.lemmas.Grind.{common_steps}
use Rattle.std.proofs.lemmas.Result.{IfOk-from_err}
use Rattle.std.proofs.Common.{◌≡◌, map, reverse, drop, ap, ◌∙◌, arith}
use Rattle.schema.specs.Rdns.{rdn_key_of}
use Rattle.schema.proofs.Steps.{step_before, none_yet}
use Rattle.schema.proofs.locate.path_of.Goals as goal

pub loop-i-init : goal.loop-i-init
loop-i-init c = none_yet (rdn_key_of c.args.types.now) c.args.rdns.now c.in_ok-path.path c.in_ok-path.ensures

pub loop-i-preserved : goal.loop-i-preserved
loop-i-preserved c =
    step_before (rdn_key_of c.args.types.now) c.args.rdns.now c.loop-i.i c.loop-i.path c.in_ok-path-2.path c.index-rdns-i.result (omega arith) (omega arith)
    c.loop-i.invariant c.index-rdns-i.is c.in_ok-path-2.ensures

pub returns : goal.returns
returns c =
    let none : c.loop-i.i ≡ 0 = omega arith in
    c.into_path.ensures ∙ c.loop-i.invariant
    ∙ ap (λ n. map (rdn_key_of c.args.types.now) (reverse (drop n c.args.rdns.now))) none

pub returns-in_err-path : goal.returns-in_err-path
returns-in_err-path c = IfOk-from_err _ _ c.from_residual.ensures.0

pub returns-in_err-path-2 : goal.returns-in_err-path-2
returns-in_err-path-2 c = IfOk-from_err _ _ c.from_residual-in_err-path-2.ensures.0

pub step_down-requires : goal.step_down-requires
step_down-requires c = grind (arith, common_steps)
