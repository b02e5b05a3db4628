use Rattle.std.proofs.Common.{true, sym}
use Rattle.base.specs.Naming.{are_groups}
use Rattle.base.proofs.Groups.{goes_on, stops, is_over}
use Rattle.base.proofs.naming.is_oid.Goals as goal

pub loop-b-preserved : goal.loop-b-preserved
loop-b-preserved c = goes_on c.args.text.now c.loop-b.b-index c.loop-b.due c.in-Some.next (are_groups true c.args.text.now) c.loop-b-test.true (sym c.in-Some.ensures) c.loop-b.invariant

pub returns-in-None : goal.returns-in-None
returns-in-None c = stops c.args.text.now c.loop-b.b-index c.loop-b.due (are_groups true c.args.text.now) c.loop-b-test.true (sym c.in-None.ensures) c.loop-b.invariant

pub returns : goal.returns
returns c = is_over c.args.text.now c.loop-b.b-index c.loop-b.due (are_groups true c.args.text.now) c.loop-b-test.false c.loop-b.invariant
