use Rattle.std.proofs.Common.{◌||◌, ◌∙◌}
use Rattle.matching.proofs.Ends.{gap_at_ends}
use Rattle.matching.proofs.wide_gaps.has_wide_gap_at_ends.Goals as goal

pub returns : goal.returns
returns c =
    (λ j. c.has_wide_gap_in.ensures j || c.has_wide_gap_in-2.ensures j) ∙ gap_at_ends c.args.bytes.now c.args.len c.requires
