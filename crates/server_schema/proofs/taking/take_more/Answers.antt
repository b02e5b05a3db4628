use Rattle.std.proofs.Common.{ap, ◌∙◌}
use Rattle.server_schema.specs.Definitions.{lines_of}
use Rattle.server_schema.proofs.Passing.{put_lines, some_defs}
use Rattle.server_schema.proofs.taking.take_more.Goals as goal

pub returns-then-taken-clause-took : goal.returns-then-taken-clause-took
returns-then-taken-clause-took c =
    put_lines _ _ _ _ _ c.if-taken.true c.in_ok-taken.ensures.put (c.deref-2.ensures.value ∙ c.in_ok-lines.ensures ∙ ap lines_of (some_defs _ _))
