use Rattle.std.proofs.Common.{List, sym, subst}
use Rattle.tree.specs.Trees.{Placed}
use Rattle.databases.proofs.Places.{CountsOn, none_counted, counted_up_to}
use Rattle.databases.proofs.ranks.rank_of.Goals as goal

pub loop-found-init : goal.loop-found-init
loop-found-init c =
    subst (λ (items : List Placed). CountsOn c.args.tree.now.entries c.args.path.now 0 items) (sym c.into_iter-found-iterator.ensures.into_iter_gives)
    (none_counted c.args.tree.now.entries c.args.path.now c.root-root.result c.numbered-found-items.result c.root-root.ensures c.numbered-found-items.ensures.entries)

pub returns-in-Equal : goal.returns-in-Equal
returns-in-Equal c =
    let e : Placed = record { path = c.in-Some.found.0.now; number = c.in-Some.found.1; entry = c.in-Some.found.2.now } in
    counted_up_to c.args.tree.now.entries c.args.path.now c.loop-found.rank c.loop-found.found-iterator c.next.new.self e c.cmp.result
    c.in-Some.ensures.steps c.cmp.ensures c.in-Equal.is c.loop-found.invariant
