use Rattle.std.proofs.Common.{ℕ, sym, ◌∙◌, ap, subst, List, map, Some, ◌≡◌}
use Rattle.std.specs.Prelude.{filter, take_while}
use Rattle.std.specs.List.{AllByRecursion}
use Rattle.std.specs.FinMap as finite
use Rattle.std.specs.FinMap.{entries}
use Rattle.paths.specs.Paths.{Path, begins}
use Rattle.entries.specs.StoredEntries.{IsMade}
use Rattle.tree.specs.Trees.{Tree, Placed, unnumbered, seen_entries}
use Rattle.tree.specs.inner.Trees.{joined, placed, numbers_of, AreFilled}
use Rattle.tree.proofs.TreeLemmas.{range_seen, range_good, unnumbered_while, placed_made, placed_numbers}
use Rattle.tree.proofs.tree.Tree.numbered.Goals as goal

pub new-requires : goal.new-requires
new-requires c = subst (AreFilled c.self.inside.cells.cells) (sym (c.range.ensures.between tt)) (range_good c.self.inside.made.value c.self.inside.cells.cells c.args.base.now c.self.inside.numbers.entries c.self.invariant).1

pub returns-clause-entries : goal.returns-clause-entries
returns-clause-entries c =
    ap (λ (es : List Placed). seen_entries (map unnumbered es)) c.new.ensures
    ∙ ap seen_entries (unnumbered_while c.args.base.now c.self.inside.cells.cells c.range.result)
    ∙ ap (λ (es : List (Path × ℕ)). seen_entries (take_while (λ e. begins c.args.base.now e.0) (joined c.self.inside.cells.cells es))) (c.range.ensures.between tt)
    ∙ range_seen c.self.inside.made.value c.self.inside.cells.cells c.args.base.now c.self.inside.numbers.entries c.self.invariant
    ∙ ap (λ (d : Tree). filter (λ e. begins c.args.base.now e.0) (entries d.entries)) c.self.view_is

pub returns-clause-made : goal.returns-clause-made
returns-clause-made c =
    subst (AllByRecursion (λ (e : Placed). IsMade c.args.self.now.conf.types e.entry.attrs)) (sym c.new.ensures)
    (subst (λ (d : Tree). AllByRecursion (λ (e : Placed). IsMade d.conf.types e.entry.attrs) (take_while (λ (e : Placed). begins c.args.base.now e.path) (placed c.self.inside.cells.cells c.range.result))) c.self.view_is
    (subst (λ (es : List (Path × ℕ)). AllByRecursion (λ (e : Placed). IsMade c.self.inside.made.value.types e.entry.attrs) (take_while (λ (e : Placed). begins c.args.base.now e.path) (placed c.self.inside.cells.cells es))) (sym (c.range.ensures.between tt))
    (placed_made c.self.inside.made.value c.self.inside.cells.cells c.args.base.now c.self.inside.numbers.entries c.self.invariant)))

pub returns-clause-numbers : goal.returns-clause-numbers
returns-clause-numbers c =
    subst (AllByRecursion (λ (e : Placed). finite.get c.args.self.now.numbers e.path ≡ Some e.number)) (sym c.new.ensures)
    (subst (λ (d : Tree). AllByRecursion (λ (e : Placed). finite.get d.numbers e.path ≡ Some e.number) (take_while (λ (e : Placed). begins c.args.base.now e.path) (placed c.self.inside.cells.cells c.range.result))) c.self.view_is
    (subst (λ (es : List (Path × ℕ)). AllByRecursion (λ (e : Placed). finite.get (numbers_of c.self.inside.numbers.entries) e.path ≡ Some e.number) (take_while (λ (e : Placed). begins c.args.base.now e.path) (placed c.self.inside.cells.cells es))) (sym (c.range.ensures.between tt))
    (placed_numbers c.self.inside.made.value c.self.inside.cells.cells c.args.base.now c.self.inside.numbers.entries c.self.invariant)))
