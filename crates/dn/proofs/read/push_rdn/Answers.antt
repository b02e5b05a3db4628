use Rattle.std.proofs.lemmas.Result.{err_from_is_err_and, IfOk-from_err}
use Rattle.dn.proofs.read.push_rdn.Goals as goal

pub returns-in_err-rdn-clause-ok : goal.returns-in_err-rdn-clause-ok
returns-in_err-rdn-clause-ok c = IfOk-from_err _ _ c.from_residual.ensures.0

pub returns-in_err-rdn-clause-err : goal.returns-in_err-rdn-clause-err
returns-in_err-rdn-clause-err c =
    let p = err_from_is_err_and c.from_residual.result c.from_residual.ensures.1 in
    rw (p.1, p.2) c.in_err-rdn.ensures

pub returns-clause-ok : goal.returns-clause-ok
returns-clause-ok c = (c.in_ok-rdn.rdn, c.in_ok-rdn.ensures, c.in_ok-push.ensures.ok)
