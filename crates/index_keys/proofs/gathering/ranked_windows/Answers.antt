use Rattle.schema.specs.declared.slots.IndexKind.TheVariants.{Substrings}
use Rattle.index_keys.proofs.Gathered.{all_gathered, windows_more}
use Rattle.index_keys.proofs.gathering.ranked_windows.Goals as goal

pub loop-numbered-preserved : goal.loop-numbered-preserved
loop-numbered-preserved c = record { so_far = windows_more _ _ _ _ _ c.loop-numbered-test.true c.in_ok-push_windows.ensures c.loop-numbered.invariant.so_far }

pub returns : goal.returns
returns c = all_gathered Substrings _ _ _ _ c.loop-numbered-test.false c.in_order.ensures.rise c.in_order.ensures.same c.loop-numbered.invariant.so_far
