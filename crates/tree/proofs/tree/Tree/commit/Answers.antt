use Rattle.std.proofs.Common.{◌≡◌, ◌∙◌, sym, ap, subst}
use Rattle.std.specs.Prelude.{OnOk}
use Rattle.std.specs.FinMap as finite
use Rattle.paths.specs.Paths.{Path}
use Rattle.entries.specs.StoredEntries.{content_of}
use Rattle.tree.specs.Trees.{Numbers}
use Rattle.tree.specs.Directories.{IsDirectory}
use Rattle.tree.specs.Plans.{numbers_after}
use Rattle.tree.specs.Changes.{Change, changed, moved}
use Rattle.tree.specs.declared.plans.Change.TheVariants.{Nothing, Add, Replace, Remove, Move}
use Rattle.tree.proofs.Carried.{put_same, number_is}
use Rattle.tree.proofs.PlanLemmas.{fits, change_is}
use Rattle.tree.proofs.tree.Tree.commit.Goals as goal

pub add-requires-clause-new : goal.add-requires-clause-new
add-requires-clause-new c = (fits c.plan.inside.of.value c.plan.inside.change c.args.plan c.args.self.now (Add c.in-Add.path c.in-Add.number c.in-Add.entry) c.plan.view_is c.requires c.in-Add.is c.plan.invariant.change).fit.0

pub add-requires-clause-made : goal.add-requires-clause-made
add-requires-clause-made c = (fits c.plan.inside.of.value c.plan.inside.change c.args.plan c.args.self.now (Add c.in-Add.path c.in-Add.number c.in-Add.entry) c.plan.view_is c.requires c.in-Add.is c.plan.invariant.change).fit.1

pub add-requires-clause-directory : goal.add-requires-clause-directory
add-requires-clause-directory c = (fits c.plan.inside.of.value c.plan.inside.change c.args.plan c.args.self.now (Add c.in-Add.path c.in-Add.number c.in-Add.entry) c.plan.view_is c.requires c.in-Add.is c.plan.invariant.change).directory

pub replace-requires-clause-there : goal.replace-requires-clause-there
replace-requires-clause-there c = (c.in-Replace.path, (fits c.plan.inside.of.value c.plan.inside.change c.args.plan c.args.self.now (Replace c.in-Replace.path c.in-Replace.number c.in-Replace.entry) c.plan.view_is c.requires c.in-Replace.is c.plan.invariant.change).fit.0)

pub replace-requires-clause-made : goal.replace-requires-clause-made
replace-requires-clause-made c = (fits c.plan.inside.of.value c.plan.inside.change c.args.plan c.args.self.now (Replace c.in-Replace.path c.in-Replace.number c.in-Replace.entry) c.plan.view_is c.requires c.in-Replace.is c.plan.invariant.change).fit.1

pub replace-requires-clause-directory : goal.replace-requires-clause-directory
replace-requires-clause-directory c = λ p is.
    let fit = fits c.plan.inside.of.value c.plan.inside.change c.args.plan c.args.self.now (Replace c.in-Replace.path c.in-Replace.number c.in-Replace.entry) c.plan.view_is c.requires c.in-Replace.is c.plan.invariant.change in
    subst (λ (q : Path). IsDirectory c.args.self.now.conf (finite.insert c.args.self.now.entries q (content_of c.in-Replace.entry)))
    (c.entries_are_numbered.ensures.apart c.in-Replace.path p c.in-Replace.number fit.fit.0 is) fit.directory

pub remove-requires-clause-there : goal.remove-requires-clause-there
remove-requires-clause-there c = (fits c.plan.inside.of.value c.plan.inside.change c.args.plan c.args.self.now (Remove c.in-Remove.path c.in-Remove.number) c.plan.view_is c.requires c.in-Remove.is c.plan.invariant.change).fit

pub remove-requires-clause-directory : goal.remove-requires-clause-directory
remove-requires-clause-directory c = (fits c.plan.inside.of.value c.plan.inside.change c.args.plan c.args.self.now (Remove c.in-Remove.path c.in-Remove.number) c.plan.view_is c.requires c.in-Remove.is c.plan.invariant.change).directory

pub rename-requires-clause-there : goal.rename-requires-clause-there
rename-requires-clause-there c = (fits c.plan.inside.of.value c.plan.inside.change c.args.plan c.args.self.now (Move c.in-Move.from c.in-Move.to c.in-Move.number c.in-Move.entry) c.plan.view_is c.requires c.in-Move.is c.plan.invariant.change).fit.0

pub rename-requires-clause-new : goal.rename-requires-clause-new
rename-requires-clause-new c = (fits c.plan.inside.of.value c.plan.inside.change c.args.plan c.args.self.now (Move c.in-Move.from c.in-Move.to c.in-Move.number c.in-Move.entry) c.plan.view_is c.requires c.in-Move.is c.plan.invariant.change).fit.1

pub rename-requires-clause-made : goal.rename-requires-clause-made
rename-requires-clause-made c = (fits c.plan.inside.of.value c.plan.inside.change c.args.plan c.args.self.now (Move c.in-Move.from c.in-Move.to c.in-Move.number c.in-Move.entry) c.plan.view_is c.requires c.in-Move.is c.plan.invariant.change).fit.2

pub rename-requires-clause-directory : goal.rename-requires-clause-directory
rename-requires-clause-directory c = (fits c.plan.inside.of.value c.plan.inside.change c.args.plan c.args.self.now (Move c.in-Move.from c.in-Move.to c.in-Move.number c.in-Move.entry) c.plan.view_is c.requires c.in-Move.is c.plan.invariant.change).directory

pub returns-in-Nothing-clause-entries : goal.returns-in-Nothing-clause-entries
returns-in-Nothing-clause-entries c = ap (changed c.args.self.now.entries) (sym (change_is c.plan.inside.of.value c.plan.inside.change c.args.plan Nothing c.plan.view_is c.in-Nothing.is))

pub returns-in-Nothing-clause-numbers : goal.returns-in-Nothing-clause-numbers
returns-in-Nothing-clause-numbers c = ap (numbers_after c.args.self.now) (sym (change_is c.plan.inside.of.value c.plan.inside.change c.args.plan Nothing c.plan.view_is c.in-Nothing.is))

pub returns-in-Add-clause-entries : goal.returns-in-Add-clause-entries
returns-in-Add-clause-entries c = subst (λ (x : Change). OnOk c.add.result (c.add.new.self.entries ≡ changed c.args.self.now.entries x)) (sym (change_is c.plan.inside.of.value c.plan.inside.change c.args.plan (Add c.in-Add.path c.in-Add.number c.in-Add.entry) c.plan.view_is c.in-Add.is)) c.add.ensures.entries

pub returns-in-Add-clause-numbers : goal.returns-in-Add-clause-numbers
returns-in-Add-clause-numbers c = subst (λ (x : Change). OnOk c.add.result (c.add.new.self.numbers ≡ numbers_after c.args.self.now x)) (sym (change_is c.plan.inside.of.value c.plan.inside.change c.args.plan (Add c.in-Add.path c.in-Add.number c.in-Add.entry) c.plan.view_is c.in-Add.is)) c.add.ensures.numbers

pub returns-in-Add-clause-err : goal.returns-in-Add-clause-err
returns-in-Add-clause-err c = c.add.ensures.err

pub returns-in-Add-clause-same_conf : goal.returns-in-Add-clause-same_conf
returns-in-Add-clause-same_conf c = c.add.ensures.same_conf

pub returns-in-Replace-clause-entries : goal.returns-in-Replace-clause-entries
returns-in-Replace-clause-entries c =
    c.replace.ensures.entries c.in-Replace.path (fits c.plan.inside.of.value c.plan.inside.change c.args.plan c.args.self.now (Replace c.in-Replace.path c.in-Replace.number c.in-Replace.entry) c.plan.view_is c.requires c.in-Replace.is c.plan.invariant.change).fit.0
    ∙ ap (changed c.args.self.now.entries) (sym (change_is c.plan.inside.of.value c.plan.inside.change c.args.plan (Replace c.in-Replace.path c.in-Replace.number c.in-Replace.entry) c.plan.view_is c.in-Replace.is))

pub returns-in-Replace-clause-numbers : goal.returns-in-Replace-clause-numbers
returns-in-Replace-clause-numbers c =
    let there = (fits c.plan.inside.of.value c.plan.inside.change c.args.plan c.args.self.now (Replace c.in-Replace.path c.in-Replace.number c.in-Replace.entry) c.plan.view_is c.requires c.in-Replace.is c.plan.invariant.change).fit.0 in
    let d = c.args.self.now in
    c.replace.ensures.numbers ∙ put_same d.numbers c.in-Replace.path c.in-Replace.number there
    ∙ ap (finite.insert d.numbers c.in-Replace.path) (sym (number_is d c.in-Replace.path c.in-Replace.number there))
    ∙ ap (numbers_after d) (sym (change_is c.plan.inside.of.value c.plan.inside.change c.args.plan (Replace c.in-Replace.path c.in-Replace.number c.in-Replace.entry) c.plan.view_is c.in-Replace.is))

pub returns-in-Remove-clause-entries : goal.returns-in-Remove-clause-entries
returns-in-Remove-clause-entries c = c.remove.ensures.entries ∙ ap (changed c.args.self.now.entries) (sym (change_is c.plan.inside.of.value c.plan.inside.change c.args.plan (Remove c.in-Remove.path c.in-Remove.number) c.plan.view_is c.in-Remove.is))

pub returns-in-Remove-clause-numbers : goal.returns-in-Remove-clause-numbers
returns-in-Remove-clause-numbers c = c.remove.ensures.numbers ∙ ap (numbers_after c.args.self.now) (sym (change_is c.plan.inside.of.value c.plan.inside.change c.args.plan (Remove c.in-Remove.path c.in-Remove.number) c.plan.view_is c.in-Remove.is))

pub returns-in-Remove-clause-same_conf : goal.returns-in-Remove-clause-same_conf
returns-in-Remove-clause-same_conf c = c.remove.ensures.same_conf

pub returns-clause-entries : goal.returns-clause-entries
returns-clause-entries c = subst (λ (x : Change). OnOk c.rename.result (c.rename.new.self.entries ≡ changed c.args.self.now.entries x)) (sym (change_is c.plan.inside.of.value c.plan.inside.change c.args.plan (Move c.in-Move.from c.in-Move.to c.in-Move.number c.in-Move.entry) c.plan.view_is c.in-Move.is)) c.rename.ensures.entries

pub returns-clause-numbers : goal.returns-clause-numbers
returns-clause-numbers c =
    let d = c.args.self.now in
    let is : finite.insert (moved c.in-Move.from c.in-Move.to d.numbers) c.in-Move.to c.in-Move.number ≡ numbers_after d c.args.plan.change =
    ap (finite.insert (moved c.in-Move.from c.in-Move.to d.numbers) c.in-Move.to) (sym (number_is d c.in-Move.from c.in-Move.number (fits c.plan.inside.of.value c.plan.inside.change c.args.plan c.args.self.now (Move c.in-Move.from c.in-Move.to c.in-Move.number c.in-Move.entry) c.plan.view_is c.requires c.in-Move.is c.plan.invariant.change).fit.0))
    ∙ ap (numbers_after d) (sym (change_is c.plan.inside.of.value c.plan.inside.change c.args.plan (Move c.in-Move.from c.in-Move.to c.in-Move.number c.in-Move.entry) c.plan.view_is c.in-Move.is)) in
    subst (λ (m : Numbers). OnOk c.rename.result (c.rename.new.self.numbers ≡ m)) is c.rename.ensures.numbers
