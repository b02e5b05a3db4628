use Rattle.dense_sets.proofs.Through.{insert_step, insert_all}
use Rattle.std.proofs.Common.{ap, ◌∙◌, refl}
use Rattle.std.specs.FinSet.{from_list}
use Rattle.std.specs.FinSet as set
use Rattle.dense_sets.proofs.forms.with_all.Goals as goal

pub loop-id-preserved : goal.loop-id-preserved
loop-id-preserved c q = ap (λ s. set.contains s q) c.in_ok-insert.ensures.ok ∙ insert_step c.loop-id.words c.args.words c.args.ids.now c.loop-id.id-index q c.loop-id-test.true (c.loop-id.invariant q)

pub returns : goal.returns
returns c = insert_all c.loop-id.words c.args.words (from_list c.args.ids.now) c.args.ids.now c.loop-id.id-index c.loop-id-test.false refl c.loop-id.invariant
