use Rattle.std.proofs.Common.{sym, subst}
use Rattle.server_schema.specs.Growth.{Grows, Marks, definitions_of_all}
use Rattle.server_schema.proofs.Growing.{then_grows, then_grows_more}
use Rattle.server_schema.proofs.Marking.{then_marks, among_marks}
use Rattle.server_schema.proofs.transfer.grown.Goals as goal

pub returns-clause-grows : goal.returns-clause-grows
returns-clause-grows c =
    subst (Grows c.args.text.now.items (definitions_of_all c.args.candidates.items) c.settle.new.text.items (definitions_of_all c.in_ok-left.left.items)) (sym c.is_either-is_changed.ensures)
    (then_grows_more _ _ _ _ _ _ _ (then_grows _ _ _ _ _ _ _ _ c.in_ok-types.ensures.grows c.in_ok-classes.ensures.grows) c.in_ok-left.ensures.grows)

pub returns-clause-marks : goal.returns-clause-marks
returns-clause-marks c =
    subst (Marks c.args.candidates.items c.in_ok-left.left.items) (sym c.is_either-is_changed.ensures)
    (among_marks _ _ _ _ (then_marks _ _ _ _ _ c.in_ok-types.ensures.marks c.in_ok-classes.ensures.marks) c.in_ok-left.ensures.among)
