use Rattle.std.proofs.Common.{◌≡◌, ◌∙◌, true, List, ap, subst}
use Rattle.std.proofs.lemmas.List.{take_all}
use Rattle.dir_conf.specs.inner.Views.{defined_view}
use Rattle.server_schema.specs.declared.alike.Meaning.{Meaning}
use Rattle.server_schema.specs.declared.definition.Definition.{Definition}
use Rattle.server_schema.specs.Alike.{meanings_of, is_among}
use Rattle.server_schema.specs.Stated.{is_built_in}
use Rattle.server_schema.proofs.Gathering.{no_comment, more_comments, nothing_before, SayThese, none_say, next_says}
use Rattle.server_schema.proofs.remarks.put_built_in.Goals as goal

pub loop-definition-init : goal.loop-definition-init
loop-definition-init c = record { adds = no_comment _; none = λ none. none_say _ _ }

pub loop-definition-preserved : goal.loop-definition-preserved
loop-definition-preserved c = record {
  adds = more_comments _ _ _ c.loop-definition.invariant.adds c.in_ok-remark_on_built_in.ensures.adds;
  none = λ none.
      let d = c.definition-item.result in
      let this = subst (λ (ms : List Meaning). is_built_in d ≡ true → is_among (defined_view c.args.defined.now) ms d ≡ true) c.deref-in-loop-definition.ensures.value (c.in_ok-remark_on_built_in.ensures.none none) in
      next_says (defined_view c.args.defined.now) _ c.args.definitions.now c.loop-definition.definition-index d c.loop-definition-test.true c.definition-item.is
      (c.loop-definition.invariant.none (nothing_before _ _ c.in_ok-remark_on_built_in.ensures.adds none)) this;
}

pub returns-clause-none : goal.returns-clause-none
returns-clause-none c = λ none.
    subst (λ (ms : List Meaning). SayThese (defined_view c.args.defined.now) ms c.args.definitions.now)
    (c.in_ok-meanings.ensures ∙ ap meanings_of (c.deref.ensures.value ∙ c.in_ok-known.ensures))
    (subst (λ (ds : List Definition). SayThese (defined_view c.args.defined.now) c.in_ok-meanings.meanings.items ds) (take_all c.loop-definition.definition-index c.args.definitions.now c.loop-definition-test.false)
    (c.loop-definition.invariant.none none))
