use Rattle.std.proofs.lemmas.Grind.{common_steps}
use Rattle.std.proofs.Common.{◌∷◌, ◌∙◌, sym, ap, arith}
use Rattle.std.proofs.lemmas.List.{append_cancel_right}
use Rattle.dn.specs.Apart.{may_end}
use Rattle.dn.specs.Reading.{name_of}
use Rattle.dn.proofs.Apart.{apart, front_some}
use Rattle.dn.proofs.ends.split_end.Goals as goal

pub returns-clause-read : goal.returns-clause-read
returns-clause-read c = λ some.
    ap name_of c.in_ok-front.ensures ∙ apart c.in_ok-front.front.now c.args.end.now (sym c.may_end.ensures ∙ c.if-not-may_end.false) some

pub returns-clause-some : goal.returns-clause-some
returns-clause-some c = front_some c.in_ok-front.front.now (sym c.may_end.ensures ∙ c.if-not-may_end.false)

-- one front alone stands before the comma and the end
pub returns-then-not-may_end-clause-none : goal.returns-then-not-may_end-clause-none
returns-then-not-may_end-clause-none c = λ front is.
    ap may_end (append_cancel_right front c.in_ok-front.front.now (44 ∷ c.args.end.now) (sym is ∙ c.in_ok-front.ensures))
    ∙ sym c.may_end.ensures ∙ c.if-not-may_end.true

pub returns-in_err-front-clause-read : goal.returns-in_err-front-clause-read
returns-in_err-front-clause-read c = grind (arith, common_steps)
