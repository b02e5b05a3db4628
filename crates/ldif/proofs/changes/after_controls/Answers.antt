use Rattle.std.proofs.lemmas.Result.{err_from_is_err_and}
use Rattle.ldif.specs.Gives.{fault_of}
use Rattle.ldif.proofs.ChangeTypes.{no_type, added, not_added, deleted, not_deleted, modified, not_modified, renamed, not_renamed}
use Rattle.ldif.proofs.changes.after_controls.Goals as goal

pub returns-in_err-change_type : goal.returns-in_err-change_type
returns-in_err-change_type c =
    let p = err_from_is_err_and c.from_residual.result c.from_residual.ensures.1 in
    rw (p.1, p.2) (no_type c.args.add c.args.dn c.args.controls c.args.lines (fault_of c.in_err-change_type.field-0.0) c.in_err-change_type.ensures)

pub returns-in_err-attrs-in-Add : goal.returns-in_err-attrs-in-Add
returns-in_err-attrs-in-Add c =
    let p = err_from_is_err_and c.from_residual-in_err-attrs-in-Add.result c.from_residual-in_err-attrs-in-Add.ensures.1 in
    rw (p.1, p.2) (not_added c.args.add c.args.dn c.args.controls c.args.lines _ _ c.in_ok-change_type.ensures c.in-Add.is (fault_of c.in_err-attrs-in-Add.field-0.0) c.in_err-attrs-in-Add.ensures)

pub returns-in_ok-attrs-in-Add : goal.returns-in_ok-attrs-in-Add
returns-in_ok-attrs-in-Add c = added c.args.add c.args.dn c.args.controls c.args.lines _ _ c.in_ok-change_type.ensures c.in-Add.is _ c.in_ok-attrs-in-Add.ensures

pub returns-in_err-nothing_more-in-Delete : goal.returns-in_err-nothing_more-in-Delete
returns-in_err-nothing_more-in-Delete c =
    let p = err_from_is_err_and c.from_residual-in_err-nothing_more-in-Delete.result c.from_residual-in_err-nothing_more-in-Delete.ensures.1 in
    rw (p.1, p.2) (not_deleted c.args.add c.args.dn c.args.controls c.args.lines _ _ c.in_ok-change_type.ensures c.in-Delete.is (fault_of c.in_err-nothing_more-in-Delete.field-0.0) c.in_err-nothing_more-in-Delete.ensures)

pub returns-in_ok-nothing_more-in-Delete : goal.returns-in_ok-nothing_more-in-Delete
returns-in_ok-nothing_more-in-Delete c = deleted c.args.add c.args.dn c.args.controls c.args.lines _ _ c.in_ok-change_type.ensures c.in-Delete.is _ c.in_ok-nothing_more-in-Delete.ensures

pub returns-in_err-mods-in-Modify : goal.returns-in_err-mods-in-Modify
returns-in_err-mods-in-Modify c =
    let p = err_from_is_err_and c.from_residual-in_err-mods-in-Modify.result c.from_residual-in_err-mods-in-Modify.ensures.1 in
    rw (p.1, p.2) (not_modified c.args.add c.args.dn c.args.controls c.args.lines _ _ c.in_ok-change_type.ensures c.in-Modify.is (fault_of c.in_err-mods-in-Modify.field-0.0) c.in_err-mods-in-Modify.ensures)

pub returns-in_ok-mods-in-Modify : goal.returns-in_ok-mods-in-Modify
returns-in_ok-mods-in-Modify c = modified c.args.add c.args.dn c.args.controls c.args.lines _ _ c.in_ok-change_type.ensures c.in-Modify.is _ c.in_ok-mods-in-Modify.ensures

pub returns-in_err-newrdn-in-ModRdn : goal.returns-in_err-newrdn-in-ModRdn
returns-in_err-newrdn-in-ModRdn c =
    let p = err_from_is_err_and c.from_residual-in_err-newrdn-in-ModRdn.result c.from_residual-in_err-newrdn-in-ModRdn.ensures.1 in
    rw (p.1, p.2) (not_renamed c.args.add c.args.dn c.args.controls c.args.lines _ _ c.in_ok-change_type.ensures c.in-ModRdn.is (fault_of c.in_err-newrdn-in-ModRdn.field-0.0) (c.in_err-newrdn-in-ModRdn.ensures c.args.dn c.args.controls))

pub returns-in_ok-newrdn-in-ModRdn : goal.returns-in_ok-newrdn-in-ModRdn
returns-in_ok-newrdn-in-ModRdn c = renamed c.args.add c.args.dn c.args.controls c.args.lines _ _ c.in_ok-change_type.ensures c.in-ModRdn.is _ (c.in_ok-newrdn-in-ModRdn.ensures c.args.dn c.args.controls)
