use Rattle.std.proofs.Common.{inr}
use Rattle.commands.proofs.listing.own_index.Goals as goal

pub returns-then-is_empty : goal.returns-then-is_empty
returns-then-is_empty c = λ said none. none

pub returns : goal.returns
returns c = λ said none. inr (none, c.in_ok-index.ensures)
