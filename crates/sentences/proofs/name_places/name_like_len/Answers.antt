use Rattle.std.proofs.Common.{sym, refl, arith}
use Rattle.sentences.proofs.Dues.{due_next, like_so_far, like_to_the_end}
use Rattle.sentences.proofs.name_places.name_like_len.Goals as goal

pub returns-in-None : goal.returns-in-None
returns-in-None c = like_so_far c.args.text.now c.loop-at.at _ c.loop-at.due (omega arith) refl c.loop-at.invariant (sym c.in-None.ensures)

pub loop-at-preserved : goal.loop-at-preserved
loop-at-preserved c = due_next c.args.text.now c.loop-at.at _ c.loop-at.due c.in-Some.next (omega arith) refl c.loop-at.invariant (sym c.in-Some.ensures)

pub returns : goal.returns
returns c = like_to_the_end c.args.text.now c.loop-at.at c.loop-at.due (omega arith) c.loop-at.invariant
