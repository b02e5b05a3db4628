use Rattle.std.proofs.Common.{◌∙◌, ap, sym}
use Rattle.std.specs.Ordering.{is_le}
use Rattle.std.specs.FinMap as finite
use Rattle.paths.specs.Paths.{path_cmp}
use Rattle.tree.specs.Trees.{Tree}
use Rattle.tree.proofs.LastUpTo.{IsLastUpTo, entry_is, parent_is, is_last, le_within}
use Rattle.tree.proofs.tree.Tree.has_last_and_parent.Goals as goal

last_up_to : (c : goal.After-parent_begins) → IsLastUpTo c.args.self.now.entries c.args.path.now c.in-Some.last.now
last_up_to c =
    is_last c.args.self.now.entries c.self.inside.numbers.entries c.self.invariant.sorted
    (λ q. ap (λ (t : Tree). finite.contains_key t.numbers q) c.self.view_is ∙ c.entries_are_numbered.ensures.there q)
    c.args.path.now c.in-Some.last.now c.in-Some.field-0-1.now c.in-Some.ensures.value
    (le_within (path_cmp c.in-Some.last.now c.args.path.now) (ap is_le (sym c.cmp.ensures) ∙ sym c.is_le.ensures ∙ c.if-is_le.true))
    (λ r le there. c.in-Some.ensures.greatest r there)

pub returns-in-Some-clause-entry : goal.returns-in-Some-clause-entry
returns-in-Some-clause-entry c =
    c.eq.ensures ∙ entry_is c.args.self.now.conf c.args.self.now.entries c.entries_are_a_directory.ensures c.args.path.now c.in-Some.last.now (last_up_to c)

pub returns-in-Some-clause-parent : goal.returns-in-Some-clause-parent
returns-in-Some-clause-parent c =
    c.parent_begins.ensures ∙ parent_is c.args.self.now.conf c.args.self.now.entries c.entries_are_a_directory.ensures c.args.path.now c.in-Some.last.now (last_up_to c)
