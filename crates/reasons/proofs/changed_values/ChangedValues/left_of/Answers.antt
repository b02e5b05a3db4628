use Rattle.std.proofs.Common.{sym, ◌∙◌}
use Rattle.reasons.proofs.NormsFound.{left_are_those, some_left}
use Rattle.reasons.proofs.RecordFound.{ok_map}
use Rattle.reasons.proofs.changed_values.ChangedValues.left_of.Goals as goal

pub returns-in-Delete-2 : goal.returns-in-Delete-2
returns-in-Delete-2 c =
    ok_map _ _ (λ values is. is ∙ left_are_those c.args.self.now.seen c.args.self.now.come c.args.old c.requires ∙ some_left c.args.op c.args.old c.args.self.now.come c.in-Delete-2.is (sym c.is_empty.ensures ∙ c.if-is_empty.false)) c.left.result c.left.ensures
