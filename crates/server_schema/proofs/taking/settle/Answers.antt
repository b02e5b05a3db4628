use Rattle.std.proofs.Common.{false, List, subst}
use Rattle.server_schema.specs.declared.taking.Candidate.{Candidate}
use Rattle.server_schema.specs.Growth.{Grows, AreAmong, definitions_of_all}
use Rattle.server_schema.proofs.Growing.{stays, then_grows}
use Rattle.server_schema.proofs.Marking.{among_more}
use Rattle.server_schema.proofs.taking.settle.Goals as goal

pub loop-init : goal.loop-init
loop-init c = record { grows = stays _ _; among = λ d at. at }

pub returns-then-not-grew-clause-grows : goal.returns-then-not-grew-clause-grows
returns-then-not-grew-clause-grows c =
    then_grows _ _ _ _ _ _ _ _ c.loop.invariant.grows
    (subst (λ (cs : List Candidate). Grows c.loop.text.items (definitions_of_all cs) c.pass.new.text.items (definitions_of_all c.in_ok-passed.passed.left.items) false) c.deref.ensures.value c.in_ok-passed.ensures.grows)

pub returns-then-not-grew-clause-among : goal.returns-then-not-grew-clause-among
returns-then-not-grew-clause-among c =
    among_more _ _ _ (subst (λ (cs : List Candidate). AreAmong c.in_ok-passed.passed.left.items cs) c.deref.ensures.value c.in_ok-passed.ensures.among) c.loop.invariant.among

pub loop-preserved : goal.loop-preserved
loop-preserved c = record {
  grows =
      then_grows _ _ _ _ _ _ _ _ c.loop.invariant.grows
      (subst (λ (cs : List Candidate). Grows c.loop.text.items (definitions_of_all cs) c.pass.new.text.items (definitions_of_all c.in_ok-passed.passed.left.items) false) c.deref.ensures.value c.in_ok-passed.ensures.grows);
  among = among_more _ _ _ (subst (λ (cs : List Candidate). AreAmong c.in_ok-passed.passed.left.items cs) c.deref.ensures.value c.in_ok-passed.ensures.among) c.loop.invariant.among;
}
