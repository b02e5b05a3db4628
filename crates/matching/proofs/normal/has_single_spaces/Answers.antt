use Rattle.matching.proofs.Tidy.{single_within}
use Rattle.matching.proofs.normal.has_single_spaces.Goals as goal

pub returns : goal.returns
returns c =
    single_within c.args.bytes.now c.is_empty.result c.has_wide_gap.result c.is_empty.ensures c.if-is_empty.false c.if-bytes-eq32.false c.if-bytes-eq32-2.false c.has_wide_gap.ensures
