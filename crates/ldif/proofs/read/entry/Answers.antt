use Rattle.std.proofs.Common.{sym, subst}
use Rattle.std.proofs.lemmas.Result.{err_from_is_err_and}
use Rattle.ldif.specs.Gives.{Gives, fault_of}
use Rattle.ldif.proofs.NamedLines.{no_dn, at_dn}
use Rattle.ldif.proofs.read.entry.Goals as goal

pub returns-in_err-dn-in-Some : goal.returns-in_err-dn-in-Some
returns-in_err-dn-in-Some c =
    let p = err_from_is_err_and c.from_residual.result c.from_residual.ensures.1 in
    rw (p.1, p.2) (no_dn c.args.mode c.args.lines _ _ c.in-Some.ensures (fault_of c.in_err-dn-in-Some.field-0.0) c.in_err-dn-in-Some.ensures)

pub returns-in_ok-dn-in-Some : goal.returns-in_ok-dn-in-Some
returns-in_ok-dn-in-Some c = subst (Gives c.body.result) (sym (at_dn c.args.mode c.args.lines _ _ c.in-Some.ensures _ c.in_ok-dn-in-Some.ensures)) c.body.ensures
