use Rattle.std.proofs.Common.{sym, ◌∙◌, ap}
use Rattle.std.specs.Prelude.{is_some}
use Rattle.std.specs.FinMap.{get}
use Rattle.tree.proofs.Carried.{is_none}
use Rattle.tree.proofs.tree.Tree.find.Goals as goal

pub entry_numbered-requires : goal.entry_numbered-requires
entry_numbered-requires c = (c.args.path.now, sym c.in-Some.ensures)

pub returns-in-Some-clause-entry : goal.returns-in-Some-clause-entry
returns-in-Some-clause-entry c = sym (c.entry_numbered.ensures.entry c.args.path.now (sym c.in-Some.ensures))

-- no entry stands where no number does
pub returns-in-None-clause-entry : goal.returns-in-None-clause-entry
returns-in-None-clause-entry c = sym (is_none (get c.args.self.now.entries c.args.path.now) (sym (c.entries_are_numbered.ensures.there c.args.path.now) ∙ ap is_some (sym c.in-None.ensures)))
