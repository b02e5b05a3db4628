use Rattle.std.proofs.Common.{◌≡◌, true, false, ap, sym, ◌∙◌}
use Rattle.std.specs.Prelude.{not}
use Rattle.commands.proofs.Ends.{found_there}
use Rattle.commands.proofs.slapcat.base_of.Goals as goal
use Rattle.commands.proofs.slapcat.base_of.Goals.{else-is_some-via-then-is_some+else-is_none, else-is_some-via-else-is_some}

pub returns-clause-there : goal.returns-clause-there
returns-clause-there c =
    elim c.else-is_some.branch [
      | else-is_some-via-then-is_some+else-is_none w ↦ λ asked. found_there c.args.database.now w.tree.result.now _ _ w.get.result w.tree.ensures w.get.ensures.entry (w.is_none.ensures ∙ ap not w.if-is_none.false)
      | else-is_some-via-else-is_some w ↦ λ asked. let none : false ≡ true = sym w.if-is_some.false ∙ c.is_some.ensures ∙ asked in cc
    ]
