use Rattle.std.proofs.Common.{length, sym, ap, ◌∙◌}
use Rattle.differences.proofs.Spellings.{lengths_apart}
use Rattle.differences.proofs.rdns.is_spelled_alike.Goals as goal

pub returns-then-left-right : goal.returns-then-left-right
returns-then-left-right c = lengths_apart c.args.left.now c.args.right.now (λ e. c.if-left-right.true (ap length c.avas-left.ensures ∙ e ∙ sym (ap length c.avas-right.ensures)))
