use Rattle.std.proofs.Common.{sym, ap, ◌∙◌, drop, arith}
use Rattle.differences.specs.inner.LentAttributes.{all_lent, goes_on}
use Rattle.differences.proofs.LentLists.{lent_more}
use Rattle.differences.proofs.blocks.goes_on.Goals as goal

pub returns-clause-goes : goal.returns-clause-goes
returns-clause-goes c =
    let lt = c.requires.second in
    let other = c.if-j-after.false in
    c.stands_from.ensures ∙ ap (goes_on (drop c.args.i (all_lent c.args.before.now))) (sym (lent_more c.args.after.now c.args.j c.index-after-j.result (omega (arith, lt, other)) c.index-after-j.is))
