use Rattle.std.proofs.Common.{◌∙◌}
use Rattle.commands.proofs.ListLines.{comment_so}
use Rattle.commands.proofs.list_text.comment.Goals as goal

pub returns : goal.returns
returns c = c.in_ok-push.ensures.items ∙ comment_so c.args.text.now c.loop-byte.line.items c.loop-byte.byte-index c.loop-byte-test.false c.loop-byte.invariant
