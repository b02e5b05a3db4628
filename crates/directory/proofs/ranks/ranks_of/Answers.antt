use Rattle.std.proofs.Common.{ℕ, List, ◌++◌, map, sym, ap, ◌∙◌}
use Rattle.std.specs.Ordering.{nat_cmp}
use Rattle.std.specs.FinSet as set
use Rattle.std.proofs.lemmas.List.{append-nil}
use Rattle.id_sets.specs.Walk.{ids_from}
use Rattle.directory.specs.inner.IndexRows.{rank_at, ascending}
use Rattle.directory.proofs.RankLists.{sorted_is, of_items}
use Rattle.directory.proofs.ranks.ranks_of.Goals as goal

pub returns : goal.returns
returns c =
    let ranks : List ℕ = c.args.ranks.now in
    let found : List ℕ = c.loop-number.found.items in
    sorted_is found c.sort_unstable.new.self.items c.dedup.new.self.items c.sort_unstable.ensures.permutation c.sort_unstable.ensures.sorted c.dedup.ensures.filtered
    ∙ ap ascending (
    sym (append-nil found)
    ∙ ap (λ (ns : List ℕ). found ++ map (rank_at ranks) ns) (sym c.in-None.ensures.steps.0)
    ∙ c.loop-number.invariant)
    ∙ of_items (rank_at ranks) (ids_from c.args.numbers.now.members 0) c.args.numbers.now.members
    (ap (λ (ns : List ℕ). set.from_list {R = nat_cmp} ns) (sym c.walk-number-items.ensures.list) ∙ c.walk-number-items.ensures.all)
