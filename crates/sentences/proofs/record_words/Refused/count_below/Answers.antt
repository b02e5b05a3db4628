use Rattle.std.proofs.Common.{◌≤◌, ap, ◌∙◌, zero-add, arith}
use Rattle.sentences.specs.Missing.{count_below}
use Rattle.sentences.proofs.Counted.{below_in, counted, few_below}
use Rattle.sentences.proofs.record_words.Refused.count_below.Goals as goal

pub loop-found-init : goal.loop-found-init
loop-found-init c =
    let path = c.args.path.now in
    zero-add _ ∙ ap (below_in path) c.into_iter-found-iterator.ensures.into_iter_gives
    ∙ counted c.args.self.now.tree.now.entries path c.range-found-items.result c.range-found-items.ensures.entries

pub overflow_add-below : goal.overflow_add-below
overflow_add-below c =
    let few : count_below c.args.self.now.tree.now.entries c.args.path.now ≤ 4294967295 =
    few_below c.args.self.now.tree.now.entries c.args.path.now c.entries_are_a_directory.ensures.few in
    omega (arith, few, c.loop-found.invariant)
