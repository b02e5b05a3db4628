use Rattle.std.proofs.Common.{◌∙◌, false, List, [], ◌∷◌, ◌++◌, take, sym, ap, subst}
use Rattle.std.proofs.lemmas.List.{take_more, take_all}
use Rattle.server_schema.specs.declared.definition.Definition.{Definition}
use Rattle.server_schema.specs.declared.taking.Candidate.{Candidate}
use Rattle.dir_conf.specs.inner.Views.{defined_view}
use Rattle.server_schema.specs.Growth.{AreMarked, definitions_of_all}
use Rattle.server_schema.specs.Transfers.{Gathers}
use Rattle.server_schema.proofs.Passing.{all_defs}
use Rattle.server_schema.proofs.Gathering.{none_gathered, next_gathered}
use Rattle.server_schema.proofs.Marking.{none_marked, fresh_both}
use Rattle.server_schema.proofs.transfer.candidates_of.Goals as goal

pub loop-definition-init : goal.loop-definition-init
loop-definition-init c = record {
  gathers =
      subst (λ (ts : List Candidate). Gathers (defined_view c.args.defined.now) c.args.stated.now [] (definitions_of_all ts ++ definitions_of_all c.new-classes.result.items)) (sym c.new-types.ensures.items)
      (subst (λ (cs : List Candidate). Gathers (defined_view c.args.defined.now) c.args.stated.now [] (definitions_of_all cs)) (sym c.new-classes.ensures.items) (none_gathered (defined_view c.args.defined.now) c.args.stated.now));
  types = subst (AreMarked false) (sym c.new-types.ensures.items) (none_marked false);
  classes = subst (AreMarked false) (sym c.new-classes.ensures.items) (none_marked false);
}

pub loop-definition-preserved : goal.loop-definition-preserved
loop-definition-preserved c =
    let ds = c.args.definitions.now in
    let i = c.loop-definition.definition-index in
    let d = c.definition-item.result in
    let more = take_more ds i d c.loop-definition-test.true ∙ ap (λ (e : Definition). take i ds ++ e ∷ []) (sym c.definition-item.is) in
    let fresh = c.in_ok-add_candidate.ensures.fresh c.loop-definition.invariant.types c.loop-definition.invariant.classes in
    record {
      gathers =
          subst (λ (es : List Definition). Gathers (defined_view c.args.defined.now) c.args.stated.now es (definitions_of_all c.add_candidate.new.types.items ++ definitions_of_all c.add_candidate.new.classes.items)) (sym more)
          (next_gathered (defined_view c.args.defined.now) c.args.stated.now (take i ds) _ _ d c.loop-definition.invariant.gathers c.in_ok-add_candidate.ensures.step);
      types = fresh.0;
      classes = fresh.1;
    }

pub returns-clause-gathers : goal.returns-clause-gathers
returns-clause-gathers c =
    let ds = c.args.definitions.now in
    let i = c.loop-definition.definition-index in
    let ts = c.loop-definition.types.items in
    let cs = c.loop-definition.classes.items in
    let all = ap definitions_of_all (c.in_ok-extend_from_slice.ensures.items ∙ ap (λ (ls : List Candidate). ts ++ ls) c.deref.ensures.value) ∙ all_defs ts cs in
    subst (λ (es : List Definition). Gathers (defined_view c.args.defined.now) c.args.stated.now es (definitions_of_all c.extend_from_slice.new.self.items)) (take_all i ds c.loop-definition-test.false)
    (subst (λ (es : List Definition). Gathers (defined_view c.args.defined.now) c.args.stated.now (take i ds) es) (sym all) c.loop-definition.invariant.gathers)

pub returns-clause-fresh : goal.returns-clause-fresh
returns-clause-fresh c =
    let ts = c.loop-definition.types.items in
    fresh_both ts c.loop-definition.classes.items _ (c.in_ok-extend_from_slice.ensures.items ∙ ap (λ (ls : List Candidate). ts ++ ls) c.deref.ensures.value)
    c.loop-definition.invariant.types c.loop-definition.invariant.classes
