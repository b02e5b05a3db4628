use Rattle.std.proofs.Common.{true, false, sym, ◌∙◌}
use Rattle.differences.proofs.LentLists.{any_is}
use Rattle.differences.proofs.blocks.stands_from.Goals as goal

pub returns-then-eq : goal.returns-then-eq
returns-then-eq c = sym (c.loop-i.invariant ∙ any_is c.args.t c.args.attrs.now c.loop-i.i c.index-attrs-i.result c.loop-i-test.true c.index-attrs-i.is true (sym c.eq.ensures ∙ c.if-eq.true))

pub loop-i-preserved : goal.loop-i-preserved
loop-i-preserved c = c.loop-i.invariant ∙ any_is c.args.t c.args.attrs.now c.loop-i.i c.index-attrs-i.result c.loop-i-test.true c.index-attrs-i.is false (sym c.eq.ensures ∙ c.if-eq.false)
