use Rattle.std.proofs.Common.{ap, ◌∙◌}
use Rattle.std.proofs.lemmas.List.{take_all}
use Rattle.index_keys.specs.RankedKeys.{joined}
use Rattle.index_keys.proofs.Gathered.{joined_more}
use Rattle.index_keys.proofs.gathering.bytes_of.Goals as goal

pub loop-numbered-preserved : goal.loop-numbered-preserved
loop-numbered-preserved c = record { so_far = joined_more _ _ _ _ _ c.loop-numbered-test.true c.in_ok-extend_from_slice.ensures.items c.loop-numbered.invariant.so_far }

pub returns : goal.returns
returns c = c.loop-numbered.invariant.so_far ∙ ap joined (take_all _ _ c.loop-numbered-test.false)
