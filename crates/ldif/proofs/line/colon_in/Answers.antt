use Rattle.std.proofs.Common.{arith}
use Rattle.ldif.specs.Line.{is_colon}
use Rattle.ldif.proofs.Colon.{position_is, near_is, near_within}
use Rattle.ldif.proofs.line.colon_in.Goals as goal

pub returns-clause-at : goal.returns-clause-at
returns-clause-at c = position_is is_colon c.args.line.now c.memchr.result c.memchr.ensures

pub returns-then-near-ne0-clause-at : goal.returns-then-near-ne0-clause-at
returns-then-near-ne0-clause-at c = near_is is_colon c.args.line.now c.colons-near.result c.colons-near.ensures (omega arith) (omega arith)

pub returns-then-near-ne0-clause-within : goal.returns-then-near-ne0-clause-within
returns-then-near-ne0-clause-within c = near_within is_colon c.args.line.now c.colons-near.result c.colons-near.ensures (omega arith) (omega arith)
