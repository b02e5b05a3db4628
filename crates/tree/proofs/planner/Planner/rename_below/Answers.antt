use Rattle.std.proofs.Common.{sym, ◌∙◌}
use Rattle.std.proofs.lemmas.Result.{IfOk-from_err, err_from_is_err_and}
use Rattle.entries.specs.StoredEntries.{content_of}
use Rattle.tree.proofs.Planned.{good_under, renaming_change}
use Rattle.tree.proofs.planner.Planner.rename_below.Goals as goal

pub renamed-requires-clause-old : goal.renamed-requires-clause-old
renamed-requires-clause-old c =
    (good_under c.args.self.now.tree.now.conf c.args.self.now.conf.now c.args.self.now.tree.now.entries c.args.path.now (content_of c.args.entry.now)
    c.args.self.now.same_conf c.entries_are_a_directory.ensures c.requires.there).rdn

pub returns-clause-change : goal.returns-clause-change
returns-clause-change c = λ number own.
    renaming_change c.args.self.now.tree.now c.args.self.now.conf.now c.args.path.now c.in_ok-to.to c.args.upper.now number (content_of c.args.entry.now) c.args.new c.args.delete_old c.in_ok-entry.entry
    c.args.self.now.same_conf c.entries_are_a_directory.ensures own c.requires.there c.requires.good c.in_ok-to.ensures c.in_ok-entry.ensures.made c.in_ok-entry.ensures.gives
    (sym c.begins.ensures ∙ c.if-begins.false) (sym c.contains.ensures ∙ c.if-not-contains.false) (sym c.is_taken.ensures ∙ c.if-is_taken.false)

pub returns-in_err-entry-clause-change : goal.returns-in_err-entry-clause-change
returns-in_err-entry-clause-change c = IfOk-from_err _ _ c.from_residual-in_err-entry.ensures.0

pub returns-in_err-to-clause-change : goal.returns-in_err-to-clause-change
returns-in_err-to-clause-change c = IfOk-from_err _ _ c.from_residual.ensures.0

pub returns-in_err-to-clause-gives : goal.returns-in_err-to-clause-gives
returns-in_err-to-clause-gives c = let p = err_from_is_err_and c.from_residual.result c.from_residual.ensures.1 in rw (p.1, p.2) tt
