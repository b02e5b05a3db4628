use Rattle.std.proofs.Common.{◌≡◌, ◌∙◌, sym, true, false, subst}
use Rattle.std.specs.Prelude.{OnOk}
use Rattle.std.specs.FinMap as finite
use Rattle.paths.specs.Paths.{begins}
use Rattle.tree.specs.Directories.{Entries, IsDirectory}
use Rattle.entries.specs.StoredEntries.{content_of}
use Rattle.tree.specs.Changes.{moved}
use Rattle.tree.specs.Trees.{Numbers}
use Rattle.tree.proofs.Moved.{spare_of, alone_of, of_numbers, alone_moved}
use Rattle.tree.proofs.tree.Tree.rename.Goals as goal
use Rattle.tree.proofs.tree.Tree.rename.Goals.{Else-has_child}

entries_alone : (c : Else-has_child) → finite.insert (moved c.args.from.now c.args.to c.args.self.now.entries) c.args.to (content_of c.args.entry) ≡ finite.insert (finite.remove c.args.self.now.entries c.args.from.now) c.args.to (content_of c.args.entry)
entries_alone c =
    alone_moved c.args.from.now c.args.to c.args.self.now.entries
    (spare_of c.args.self.now.conf c.args.self.now.entries c.entries_are_a_directory.ensures c.args.to c.requires.new)
    (alone_of c.args.self.now.conf c.args.self.now.entries c.entries_are_a_directory.ensures c.args.from.now (sym c.has_child.ensures ∙ c.if-has_child.false))
    (content_of c.args.entry)

numbers_alone : (c : Else-has_child) → finite.insert (moved c.args.from.now c.args.to c.args.self.now.numbers) c.args.to c.args.number ≡ finite.insert (finite.remove c.args.self.now.numbers c.args.from.now) c.args.to c.args.number
numbers_alone c =
    alone_moved c.args.from.now c.args.to c.args.self.now.numbers
    (of_numbers c.args.self.now.entries c.args.self.now.numbers c.entries_are_numbered.ensures (λ p. begins c.args.to p ≡ false)
    (spare_of c.args.self.now.conf c.args.self.now.entries c.entries_are_a_directory.ensures c.args.to c.requires.new))
    (of_numbers c.args.self.now.entries c.args.self.now.numbers c.entries_are_numbered.ensures (λ p. begins c.args.from.now p ≡ true → p ≡ c.args.from.now)
    (alone_of c.args.self.now.conf c.args.self.now.entries c.entries_are_a_directory.ensures c.args.from.now (sym c.has_child.ensures ∙ c.if-has_child.false)))
    c.args.number

pub rename_alone-requires-clause-directory : goal.rename_alone-requires-clause-directory
rename_alone-requires-clause-directory c = subst (IsDirectory c.args.self.now.conf) (entries_alone (goal.at.rename_alone-requires-clause-directory c).Else-has_child) c.requires.directory

pub returns-else-has_child-clause-entries : goal.returns-else-has_child-clause-entries
returns-else-has_child-clause-entries c = subst (λ (d : Entries). OnOk c.rename_alone.result (c.rename_alone.new.self.entries ≡ d)) (sym (entries_alone (goal.at.returns-else-has_child-clause-entries c).Else-has_child)) c.rename_alone.ensures.entries

pub returns-else-has_child-clause-numbers : goal.returns-else-has_child-clause-numbers
returns-else-has_child-clause-numbers c = subst (λ (m : Numbers). OnOk c.rename_alone.result (c.rename_alone.new.self.numbers ≡ m)) (sym (numbers_alone (goal.at.returns-else-has_child-clause-numbers c).Else-has_child)) c.rename_alone.ensures.numbers
