use Rattle.std.proofs.lemmas.Result.{err_from_is_err_and}
use Rattle.ldif.specs.Gives.{fault_of}
use Rattle.ldif.proofs.NamedLines.{no_superior, more_behind, superior}
use Rattle.ldif.proofs.changes.new_superior_of.Goals as goal

pub returns-in_err-superior-in-Some : goal.returns-in_err-superior-in-Some
returns-in_err-superior-in-Some c =
    let p = err_from_is_err_and c.from_residual.result c.from_residual.ensures.1 in
    rw (p.1, p.2) (no_superior c.args.lines _ _ c.in-Some.ensures (fault_of c.in_err-superior-in-Some.field-0.0) c.in_err-superior-in-Some.ensures)

pub returns-in_err-nothing_more-in-Some : goal.returns-in_err-nothing_more-in-Some
returns-in_err-nothing_more-in-Some c =
    let p = err_from_is_err_and c.from_residual-in_err-nothing_more-in-Some.result c.from_residual-in_err-nothing_more-in-Some.ensures.1 in
    rw (p.1, p.2) (more_behind c.args.lines _ _ c.in-Some.ensures _ c.in_ok-superior-in-Some.ensures (fault_of c.in_err-nothing_more-in-Some.field-0.0) c.in_err-nothing_more-in-Some.ensures)

pub returns-in_ok-nothing_more-in-Some : goal.returns-in_ok-nothing_more-in-Some
returns-in_ok-nothing_more-in-Some c = superior c.args.lines _ _ c.in-Some.ensures _ c.in_ok-superior-in-Some.ensures _ c.in_ok-nothing_more-in-Some.ensures
