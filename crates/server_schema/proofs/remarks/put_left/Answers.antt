use Rattle.std.proofs.Common.{◌≡◌, ◌⊎◌, true, List, subst}
use Rattle.std.proofs.lemmas.List.{take_all}
use Rattle.dir_conf.specs.inner.Views.{defined_view}
use Rattle.server_schema.specs.declared.alike.Meaning.{Meaning}
use Rattle.server_schema.specs.declared.taking.Candidate.{Candidate}
use Rattle.server_schema.specs.Alike.{is_among}
use Rattle.server_schema.specs.Transfers.{NeedNoRemark}
use Rattle.server_schema.proofs.Gathering.{no_comment, more_comments, nothing_before, none_needs, next_needs}
use Rattle.server_schema.proofs.remarks.put_left.Goals as goal

pub loop-candidate-init : goal.loop-candidate-init
loop-candidate-init c = record { adds = no_comment _; none = λ none. none_needs _ _ }

pub loop-candidate-preserved : goal.loop-candidate-preserved
loop-candidate-preserved c = record {
  adds = more_comments _ _ _ c.loop-candidate.invariant.adds c.in_ok-remark_on_candidate.ensures.adds;
  none = λ none.
      let x = c.candidate-item.result in
      let this = subst (λ (ms : List Meaning). (x.is_repaired ≡ true) ⊎ (is_among (defined_view c.args.defined.now) ms x.definition.now ≡ true)) c.deref.ensures.value (c.in_ok-remark_on_candidate.ensures.none none) in
      next_needs (defined_view c.args.defined.now) _ c.args.left.now c.loop-candidate.candidate-index x c.loop-candidate-test.true c.candidate-item.is
      (c.loop-candidate.invariant.none (nothing_before _ _ c.in_ok-remark_on_candidate.ensures.adds none)) this;
}

pub returns-clause-none : goal.returns-clause-none
returns-clause-none c = λ none.
    subst (λ (ms : List Meaning). NeedNoRemark (defined_view c.args.defined.now) ms c.args.left.now) c.in_ok-stated.ensures
    (subst (λ (cs : List Candidate). NeedNoRemark (defined_view c.args.defined.now) c.in_ok-stated.stated.items cs) (take_all c.loop-candidate.candidate-index c.args.left.now c.loop-candidate-test.false)
    (c.loop-candidate.invariant.none none))
