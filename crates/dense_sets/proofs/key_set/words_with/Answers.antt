use Rattle.std.proofs.Common.{ap, ◌∙◌}
use Rattle.std.specs.FinSet as set
use Rattle.dense_sets.proofs.Through.{union_empty}
use Rattle.dense_sets.proofs.key_set.words_with.Goals as goal

pub returns : goal.returns
returns c =
    c.in_ok-insert.ensures.ok
    ∙ ap (λ s. set.insert s c.args.id)
    (c.in_ok-words.ensures ∙ ap (λ s. set.union s (set.from_list c.as_slice.result.now)) c.new.ensures ∙ union_empty (set.from_list c.as_slice.result.now) ∙ c.as_slice.ensures.members)
