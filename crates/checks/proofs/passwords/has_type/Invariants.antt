use Rattle.std.proofs.Common.{◌≡◌, ◌||◌, nat_eq}
use Rattle.std.specs.List.{list_any}
use Rattle.tree.specs.Trees.{seen_entries}
use Rattle.checks.specs.Passwords.{has_type}
use Rattle.checks.proofs.passwords.has_type.Given as goal

abbrev pub invariant-loop-entry : goal.invariant-loop-entry
invariant-loop-entry l = (l.found || list_any (λ x. list_any (λ a. nat_eq l.t a.0) x.1.attrs) (seen_entries l.entry-iterator)) ≡ has_type l.tree.entries l.t
