use Rattle.std.proofs.Common.{sym, ◌∙◌}
use Rattle.stored_index.proofs.DraftEnds.{ends_early, lacks_end, goes_past}
use Rattle.stored_index.proofs.draft.Draft.finish.Goals as goal

pub returns-in-Header-clause-err : goal.returns-in-Header-clause-err
returns-in-Header-clause-err c W awaits = ends_early W c.args.self c.args.held.now awaits c.in-Header.is

pub returns-in-Slots-clause-err : goal.returns-in-Slots-clause-err
returns-in-Slots-clause-err c W awaits = rw c.form.ensures (lacks_end W c.args.self c.args.held.now awaits c.in-Slots.is)

pub returns-else-is_empty-clause-err : goal.returns-else-is_empty-clause-err
returns-else-is_empty-clause-err c W awaits = rw c.form-else-is_empty.ensures (goes_past W c.args.self c.args.held.now awaits c.in-End.is (sym c.is_empty.ensures ∙ c.if-is_empty.false))
