use Rattle.std.proofs.Common.{refl, subst}
use Rattle.dir_conf.specs.Configurations.{built_in, definition_line}
use Rattle.dir_conf.specs.declared.explaining.Step.{Step}
use Rattle.dir_conf.specs.inner.Passes.{StepTells}
use Rattle.dir_conf.specs.inner.Views.{defined_view}
use Rattle.dir_conf.proofs.Passes.{nothing_through, goes_through, first_stops}
use Rattle.dir_conf.proofs.explaining.first_pass.Goals as goal

pub loop-line-init : goal.loop-line-init
loop-line-init c = nothing_through (defined_view c.in_ok-known.known) c.in_ok-known.ensures

pub returns-in-Stops : goal.returns-in-Stops
returns-in-Stops c =
    first_stops c.args.lines.now c.loop-line.line-index c.line-item.result (defined_view c.loop-line.known) _ c.loop-line-test.true c.line-item.is c.loop-line.invariant refl
    (subst (λ (taken : Step). StepTells (defined_view c.loop-line.known) c.line-item.result taken) c.in-Stops.is c.in_ok-next.ensures)

pub loop-line-preserved : goal.loop-line-preserved
loop-line-preserved c =
    goes_through definition_line c.args.lines.now c.loop-line.line-index c.line-item.result c.loop-line-test.true c.line-item.is built_in (defined_view c.loop-line.known) (defined_view c.in-Goes.next) c.loop-line.invariant
    (subst (λ (taken : Step). StepTells (defined_view c.loop-line.known) c.line-item.result taken) c.in-Goes.is c.in_ok-next.ensures)
