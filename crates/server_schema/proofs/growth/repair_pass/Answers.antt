use Rattle.std.proofs.Common.{◌+◌, ◌++◌, ◌||◌, false, drop, List, ap, ◌∙◌, refl, sym, subst}
use Rattle.server_schema.specs.declared.taking.Candidate.{Candidate}
use Rattle.server_schema.specs.Growth.{Grows, Marks, AreMarked, definitions_of_all}
use Rattle.server_schema.proofs.Growing.{stays, then_grows, one_grows}
use Rattle.server_schema.proofs.Passing.{moved, in_defs}
use Rattle.server_schema.proofs.Marking.{none_marked, marked_pushed}
use Rattle.server_schema.proofs.growth.repair_pass.Goals as goal

pub loop-candidate-init : goal.loop-candidate-init
loop-candidate-init c = (
  ap (λ (cs : List Candidate). definitions_of_all cs ++ definitions_of_all c.args.candidates.now) c.new-left.ensures.items,
  stays _ _,
  λ before marked. subst (AreMarked (before || false)) (sym c.new-left.ensures.items) (none_marked (before || false)),
)

pub loop-candidate-preserved : goal.loop-candidate-preserved
loop-candidate-preserved c =
    let cs = c.args.candidates.now in
    let at = c.loop-candidate.candidate-index in
    let x = c.candidate-item.result in
    let grew = c.loop-candidate.grew in
    let taken = c.in_ok-is_taken.is_taken in
    let whole = definitions_of_all cs in (
      ap (λ (ls : List Candidate). definitions_of_all ls ++ definitions_of_all (drop (at + 1) cs)) c.in_ok-push.ensures.items
          ∙ moved c.loop-candidate.left.items cs at x _ c.loop-candidate-test.true c.candidate-item.is refl ∙ c.loop-candidate.invariant.0,
      subst (Grows c.args.text.now.items whole c.take_candidate.new.text.items whole) (sym c.is_either-grew.ensures)
          (then_grows _ _ _ _ _ _ _ _ c.loop-candidate.invariant.1 (one_grows _ _ x.definition.now _ _ (in_defs cs at x c.loop-candidate-test.true c.candidate-item.is) c.in_ok-is_taken.ensures)),
      subst (Marks cs c.push.new.self.items) (sym c.is_either-grew.ensures)
          (marked_pushed cs _ _ at x _ grew taken c.loop-candidate-test.true c.candidate-item.is c.is_either.ensures c.in_ok-push.ensures.items c.loop-candidate.invariant.2),
    )
