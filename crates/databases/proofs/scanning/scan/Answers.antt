use Rattle.std.proofs.Common.{◌≡◌, true, not, ap, sym, subst, ◌∙◌}
use Rattle.std.specs.Ordering.{nat_cmp}
use Rattle.std.specs.FinSet as set
use Rattle.std.proofs.lemmas.Option.{IfSome_then}
use Rattle.paths.specs.Paths.{Path}
use Rattle.tree.specs.Trees.{Tree, number_at}
use Rattle.filter_text.specs.Spells.{view}
use Rattle.databases.specs.Found.{AreThere}
use Rattle.databases.proofs.FoundText.{scanned_are_there}
use Rattle.databases.proofs.Scans.{scanned_whole, counted_whole}
use Rattle.databases.proofs.scanning.scan.Goals as goal

-- no number is a member
every : (c : goal.After-search) (p : Path) → not (set.contains c.new-none.result (number_at c.args.tree.now p)) ≡ true
every c p =
    ap (λ (s : set.FinSet nat_cmp). not (set.contains s (number_at c.args.tree.now p))) c.new-none.ensures
    ∙ ap not (set.contains-empty nat_cmp (number_at c.args.tree.now p))

pub returns-clause-found : goal.returns-clause-found
returns-clause-found c =
    let d : Tree = c.args.tree.now in
    IfSome_then c.search.result c.search.ensures.found (λ h found. found ∙ scanned_whole (λ p. not (set.contains c.new-none.result (number_at d p))) (every c) d.entries c.args.base.now c.args.scope d.conf (view c.args.filter.now.filter))

pub returns-clause-tested : goal.returns-clause-tested
returns-clause-tested c =
    let d : Tree = c.args.tree.now in
    IfSome_then c.search.result c.search.ensures.tested (λ h tested. tested ∙ counted_whole (λ p. not (set.contains c.new-none.result (number_at d p))) (every c) d.entries c.args.base.now c.args.scope)

pub returns-clause-entries : goal.returns-clause-entries
returns-clause-entries c =
    let d : Tree = c.args.tree.now in
    IfSome_then c.search.result c.search.ensures.found
    (λ h found. subst (AreThere d.entries) (sym (found ∙ scanned_whole (λ p. not (set.contains c.new-none.result (number_at d p))) (every c) d.entries c.args.base.now c.args.scope d.conf (view c.args.filter.now.filter)))
    (scanned_are_there d.conf d.entries c.args.base.now c.args.scope (view c.args.filter.now.filter) c.order_of_paths.ensures.total c.entries_are_a_directory.ensures))
