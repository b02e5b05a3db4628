use Rattle.std.proofs.Common.{sym}
use Rattle.std.proofs.lemmas.Result.{IfOk-from_err}
use Rattle.entries.specs.StoredEntries.{content_of}
use Rattle.tree.proofs.Planned.{good_under, modified_change}
use Rattle.tree.proofs.planner.Planner.modify_at.Goals as goal

pub modified-requires-clause-rdn : goal.modified-requires-clause-rdn
modified-requires-clause-rdn c =
    (good_under c.args.self.now.tree.now.conf c.args.self.now.conf.now c.args.self.now.tree.now.entries c.args.path (content_of c.in-Some.entry.now)
    c.args.self.now.same_conf c.entries_are_a_directory.ensures (sym c.in-Some.ensures.entry)).rdn

pub returns-clause-change : goal.returns-clause-change
returns-clause-change c =
    modified_change c.args.self.now.tree.now c.args.self.now.conf.now c.args.path c.in-Some.number (content_of c.in-Some.entry.now) c.args.mods.now c.in_ok-entry.entry
    c.args.self.now.same_conf c.entries_are_a_directory.ensures (sym c.in-Some.ensures.number) (sym c.in-Some.ensures.entry) c.in_ok-entry.ensures.made c.in_ok-entry.ensures.gives

pub returns-in_err-entry-clause-path : goal.returns-in_err-entry-clause-path
returns-in_err-entry-clause-path c = IfOk-from_err _ _ c.from_residual.ensures.0

pub returns-in_err-entry-clause-change : goal.returns-in_err-entry-clause-change
returns-in_err-entry-clause-change c = IfOk-from_err _ _ c.from_residual.ensures.0
