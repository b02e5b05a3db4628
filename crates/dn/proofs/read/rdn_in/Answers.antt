use Rattle.std.proofs.Common.{subst, sym, ◌∙◌}
use Rattle.std.proofs.lemmas.Result.{err_from_is_err_and}
use Rattle.base.specs.Answers.{Fails}
use Rattle.dn.specs.Gives.{Gives, fault_of}
use Rattle.dn.proofs.Loop.{rdn_starts, avas_fail}
use Rattle.dn.proofs.read.rdn_in.Goals as goal

pub returns-in_err-start : goal.returns-in_err-start
returns-in_err-start c =
    let p = err_from_is_err_and c.from_residual.result c.from_residual.ensures.1 in
    rw (p.1, p.2) (avas_fail c.args.text.now (fault_of c.in_err-start.field-0.0) c.in_err-start.ensures.err)

pub returns-in-Some : goal.returns-in-Some
returns-in-Some c = rdn_starts c.args.text.now _ c.in_ok-start.ensures.exact ∙ c.in-Some.ensures

pub returns-in_err-ava : goal.returns-in_err-ava
returns-in_err-ava c =
    let p = err_from_is_err_and c.from_residual-in_err-ava.result c.from_residual-in_err-ava.ensures.1 in
    let e = fault_of c.in_err-ava.field-0.0 in
    rw (p.1, p.2) (avas_fail c.args.text.now e (subst (Fails e) (sym c.in_ok-start.ensures.exact) c.in_err-ava.ensures.exact))

pub returns : goal.returns
returns c =
    let read = rdn_starts c.args.text.now _ (c.in_ok-start.ensures.exact ∙ c.in_ok-ava.ensures.exact) in
    subst (Gives _ c.rdn_from.result) (sym read) c.rdn_from.ensures
