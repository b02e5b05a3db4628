use Rattle.std.proofs.Common.{ℕ, ◌+◌, ◌||◌, take, codes, List, Option, Some, None, inl, subst, sym, ap, refl, ◌∙◌}
use Rattle.dir_conf.specs.declared.reason.ConfFlaw.{ConfFlaw}
use Rattle.dir_conf.specs.Configurations.{is_first}
use Rattle.dir_conf.specs.inner.Passes.{AreFine}
use Rattle.dir_conf.specs.inner.FoundFlaws.{TellsLater}
use Rattle.dir_conf.proofs.Passes.{nothing_fine, fine_more, second_stops}
use Rattle.dir_conf.proofs.explaining.second_pass.Goals as goal

pub loop-line-init : goal.loop-line-init
loop-line-init c = nothing_fine c.args.types.now

pub returns-in-Some : goal.returns-in-Some
returns-in-Some c =
    let here : TellsLater c.args.types.now c.loop-line.has_suffix c.line-item.result.text (Some c.in-Some.flaw) =
    subst (λ (t : List ℕ). TellsLater c.args.types.now c.loop-line.has_suffix t (Some c.in-Some.flaw)) c.as_slice-text.ensures
    (subst (λ (o : Option ConfFlaw). TellsLater c.args.types.now c.loop-line.has_suffix c.as_slice-text.result.now o) c.in-Some.is c.in_ok-flaw.ensures) in
    inl (second_stops c.args.types.now c.args.lines.now c.loop-line.line-index c.line-item.result c.loop-line.has_suffix _ c.loop-line-test.true c.line-item.is c.loop-line.invariant refl here)

pub loop-line-preserved : goal.loop-line-preserved
loop-line-preserved c =
    let here : TellsLater c.args.types.now c.loop-line.has_suffix c.line-item.result.text None =
    subst (λ (t : List ℕ). TellsLater c.args.types.now c.loop-line.has_suffix t None) c.as_slice-text.ensures
    (subst (λ (o : Option ConfFlaw). TellsLater c.args.types.now c.loop-line.has_suffix c.as_slice-text.result.now o) c.in_default.is c.in_ok-flaw.ensures) in
    let so_far = fine_more c.args.types.now c.args.lines.now c.loop-line.line-index c.line-item.result c.loop-line-test.true c.line-item.is c.loop-line.has_suffix c.loop-line.invariant here in
    let is = c.has_suffix_behind-has_suffix.ensures ∙ ap (λ (t : List ℕ). c.loop-line.has_suffix || is_first (codes "suffix") t) c.as_slice-text.ensures in
    subst (AreFine c.args.types.now (take (c.loop-line.line-index + 1) c.args.lines.now)) (sym is) so_far
