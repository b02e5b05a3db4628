use Rattle.schema.specs.Values.{is_valid_at}
use Rattle.std.proofs.Common.{arith}
use Rattle.schema.proofs.WaysOut.{makes_nothing}
use Rattle.schema.proofs.conf.Conf.pieces.Goals as goal

pub returns-in_err-are_valid_by : goal.returns-in_err-are_valid_by
returns-in_err-are_valid_by c = makes_nothing c.from_residual.result _ _ c.from_residual.ensures.1

pub returns-in_err-new-in-Some : goal.returns-in_err-new-in-Some
returns-in_err-new-in-Some c = makes_nothing c.from_residual-in_err-new-in-Some.result _ _ c.from_residual-in_err-new-in-Some.ensures.1

pub returns : goal.returns
unfolding is_valid_at
returns c = grind arith

pub returns-then-not-branch : goal.returns-then-not-branch
unfolding is_valid_at
returns-then-not-branch c = grind arith

pub unreachable-requires : goal.unreachable-requires
unreachable-requires c = grind arith
