use Rattle.std.proofs.Common.{◌≡◌, ◌∙◌, ℕ, Bool, List, map, sym, ap, subst}
use Rattle.paths.specs.Paths.{Path}
use Rattle.schema.specs.Conf.{IsConf}
use Rattle.tree.specs.Trees.{Tree, number_at}
use Rattle.index_text.specs.Indexes.{Index}
use Rattle.candidates.specs.Numbers.{numbers_contain}
use Rattle.databases.specs.Ranks.{rank_in}
use Rattle.databases.specs.Scanned.{count_among}
use Rattle.databases.specs.TreeSearches.{found, counted_found}
use Rattle.databases.specs.Walks.{AreMade, seen, counted}
use Rattle.directory.specs.Directories.{tree_of}
use Rattle.directory.specs.Indexes.{IsIndexOf}
use Rattle.directory.specs.Searches.{FindsByIndex}
use Rattle.directory.specs.inner.Ordered.{IsRankTable}
use Rattle.directory.proofs.RanksForNumbers.{finds}
use Rattle.directory.proofs.ordered.OrderedDirectory.search.Goals as goal

pub returns-in-Some-clause-finds : goal.returns-in-Some-clause-finds
returns-in-Some-clause-finds c =
    let t : Tree = c.tree-tree.result.now in
    let f = c.args.filter.now in
    let base : Path = c.args.base.now in
    let scope = c.args.scope in
    let x : Index = c.index.result.now in
    let hits = c.in-Some.hits in
    let is_rank : ℕ → Bool = numbers_contain (λ s. s) c.in_ok-ranked.ranked in
    let whole : t ≡ tree_of c.args.self.now = c.tree-tree.ensures ∙ ap tree_of c.self.view_is in
    let same : c.self.inside.entries ≡ t = c.self.invariant.same ∙ sym c.tree-tree.ensures in
    let is_conf : IsConf t.conf = subst (λ (x : Tree). IsConf x.conf) (sym c.tree-tree.ensures) (subst IsConf c.conf.ensures c.rules_are_kept.ensures) in
    let indexed : IsIndexOf t.conf t.entries t.numbers x = subst (λ (s : Tree). IsIndexOf s.conf s.entries s.numbers x) (sym c.tree-tree.ensures) c.index.ensures in
    let table : IsRankTable t c.deref.result.now = subst (IsRankTable t) (sym c.deref.ensures.value) (subst (λ (s : Tree). IsRankTable s c.self.inside.ranks.items) (sym c.tree-tree.ensures) c.self.invariant.table) in
    subst (λ (s : Tree). FindsByIndex s.conf s f base scope hits) whole
    (finds t f base scope x is_rank (c.requires ∙ ap (λ (s : Tree). s.conf) (sym whole)) is_conf c.entries_are_a_directory.ensures c.entries_are_numbered.ensures indexed
    (λ p there. c.in_ok-ranked.ensures t table p there ∙ c.in_ok-may.ensures (number_at t p))
    c.brackets_hold.ensures c.indexes_reflect_entries.ensures c.candidates_suffice.ensures hits c.in-Some.ensures.start
    (subst (λ (s : Tree). map counted hits.to_come ≡ counted_found s (λ (p : Path). is_rank (rank_in s.entries p)) base scope f) same c.in-Some.ensures.steps)
    (subst (λ (s : Tree). map seen hits.to_come ≡ found s (λ (p : Path). is_rank (rank_in s.entries p)) base scope f) same c.in-Some.ensures.found)
    (subst (λ (s : Tree). hits.in_the_end ≡ count_among s.entries (λ (p : Path). is_rank (rank_in s.entries p)) base scope) same c.in-Some.ensures.tested)
    (subst (λ (s : Tree). AreMade s.conf.types hits.to_come) same c.in-Some.ensures.made))
