use Rattle.std.proofs.Common.{◌++◌, ◌∷◌, [], sym, ◌∙◌}
use Rattle.std.proofs.lemmas.List.{take_more, take_all}
use Rattle.dir_conf.proofs.type_rules.copied.Goals as goal

pub loop-name-preserved : goal.loop-name-preserved
loop-name-preserved c =
    c.in_ok-push.ensures.items
    ∙ (λ j. c.loop-name.invariant j ++ (c.in_ok-copy.ensures ∙ c.name-item.is) j ∷ [])
    ∙ sym (take_more c.args.names.now c.loop-name.name-index c.name-item.result c.loop-name-test.true)

pub returns : goal.returns
returns c = c.from_vec.ensures ∙ c.loop-name.invariant ∙ take_all c.loop-name.name-index c.args.names.now c.loop-name-test.false
