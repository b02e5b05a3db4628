use Rattle.std.proofs.Common.{◌∙◌}
use Rattle.differences.proofs.SettledLists.{norms_more}
use Rattle.differences.proofs.as_sets.norms_of.Goals as goal

pub loop-value-preserved : goal.loop-value-preserved
loop-value-preserved c = record {
  can = (tt, tt);
  each = λ n. norms_more c.loop-value.norms c.insert.new.self c.in-Some.value.now c.in_ok-from_slice.field-0 (c.in_ok-from_slice.ensures ∙ c.norm.ensures) c.in_ok-insert.ensures.updates.0 c.loop-value.value-iterator c.next.new.self c.in-Some.ensures.steps n ∙ c.loop-value.invariant.each n;
}
