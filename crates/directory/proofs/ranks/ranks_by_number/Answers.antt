use Rattle.std.proofs.Common.{arith, List, sym, subst}
use Rattle.tree.specs.Trees.{Tree, Placed}
use Rattle.tree.proofs.Order.{path_total}
use Rattle.directory.proofs.RanksByNumber.{RanksSoFar, no_rank_yet, one_rank_more, few_ranks, numbers_differ}
use Rattle.directory.proofs.ranks.ranks_by_number.Goals as goal

pub loop-number-init : goal.loop-number-init
loop-number-init c =
    let t : Tree = c.args.tree.now in
    let seen = c.numbered-number-items.ensures in
    subst (λ (items : List Placed). RanksSoFar t c.new-ranks.result.items 0 items) (sym c.into_iter-number-iterator.ensures.into_iter_gives)
    (no_rank_yet t c.new-ranks.result.items c.numbered-number-items.result c.root-root.result c.new-ranks.ensures.items c.root-root.ensures seen.entries seen.numbers)

pub overflow_add-rank : goal.overflow_add-rank
overflow_add-rank c =
    let few = few_ranks c.args.tree.now c.loop-number.ranks.items c.loop-number.rank c.loop-number.number-iterator c.next.new.self _ c.entries_are_a_directory.ensures c.in-Some.ensures.steps c.loop-number.invariant in
    omega (arith, few)

pub loop-number-preserved : goal.loop-number-preserved
loop-number-preserved c =
    let t : Tree = c.args.tree.now in
    one_rank_more t c.loop-number.ranks.items c.put_rank.new.ranks.items c.loop-number.rank c.loop-number.number-iterator c.next.new.self _ (numbers_differ t path_total c.entries_are_numbered.ensures c.entries_are_a_directory.ensures) c.in-Some.ensures.steps c.in_ok-put_rank.ensures c.loop-number.invariant
