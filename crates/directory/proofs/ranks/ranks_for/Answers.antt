use Rattle.std.proofs.Common.{◌≡◌, ℕ, List, not, map, sym, ap, subst, ◌∙◌}
use Rattle.std.specs.FinSet as set
use Rattle.std.specs.Ordering.{nat_cmp}
use Rattle.id_sets.specs.Ascending.{IsAscending}
use Rattle.dense_sets.specs.Keys.{Kept}
use Rattle.tree.specs.Trees.{number_at}
use Rattle.candidates.specs.declared.numbers.Numbers.{Numbers}
use Rattle.candidates.specs.Numbers.{numbers_contain}
use Rattle.databases.specs.Ranks.{rank_in}
use Rattle.directory.specs.inner.IndexRows.{rank_at}
use Rattle.directory.proofs.RanksForNumbers.{same_members}
use Rattle.directory.proofs.RankLists.{ascending_rises}
use Rattle.directory.proofs.ranks.ranks_for.Goals as goal

pub of_list-requires : goal.of_list-requires
of_list-requires c = subst IsAscending (sym c.in_ok-found-in-Only.ensures) (ascending_rises (map (rank_at c.args.ranks.now) (set.items c.in-Only.members.members)))

pub of_list-requires-in-AllBut : goal.of_list-requires-in-AllBut
of_list-requires-in-AllBut c = subst IsAscending (sym c.in_ok-found-in-AllBut.ensures) (ascending_rises (map (rank_at c.args.ranks.now) (set.items c.in-AllBut.members.members)))

pub returns-in_ok-found-in-Only : goal.returns-in_ok-found-in-Only
returns-in_ok-found-in-Only c = λ t table p there.
    ap (λ (s : set.FinSet nat_cmp). set.contains s (rank_in t.entries p)) (c.of_list.ensures ∙ ap (λ (ns : List ℕ). set.from_list {R = nat_cmp} ns) c.in_ok-found-in-Only.ensures)
    ∙ same_members t c.args.ranks.now table p there c.in-Only.members.members
    ∙ sym (ap (λ (x : Numbers Kept). numbers_contain (λ s. s.members) x (number_at t p)) c.in-Only.is)

pub returns-in_ok-found-in-AllBut : goal.returns-in_ok-found-in-AllBut
returns-in_ok-found-in-AllBut c = λ t table p there.
    ap not (ap (λ (s : set.FinSet nat_cmp). set.contains s (rank_in t.entries p)) (c.of_list-in-AllBut.ensures ∙ ap (λ (ns : List ℕ). set.from_list {R = nat_cmp} ns) c.in_ok-found-in-AllBut.ensures)
    ∙ same_members t c.args.ranks.now table p there c.in-AllBut.members.members)
    ∙ sym (ap (λ (x : Numbers Kept). numbers_contain (λ s. s.members) x (number_at t p)) c.in-AllBut.is)
