use Rattle.std.proofs.Common.{◌||◌, ◌∙◌}
use Rattle.base.proofs.TestedEnds.{any_at_ends}
use Rattle.base.proofs.byte_tests.any_at_ends.Goals as goal

pub returns : goal.returns
returns g c =
    (λ j. c.any_in.ensures j || c.any_in-2.ensures j)
    ∙ any_at_ends g.T.ByteTest.holds c.args.bytes.now c.args.len c.requires
