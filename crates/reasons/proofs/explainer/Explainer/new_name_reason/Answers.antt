use Rattle.std.proofs.Common.{◌++◌, ◌∷◌, Ok, Err, map}
use Rattle.std.specs.Map.Iter.{deref}
use Rattle.std.specs.Option.{option_map}
use Rattle.reasons.specs.NameFlaws.{new_rdn_checks}
use Rattle.reasons.specs.Flaws.{NewRdn, BelowItself, NoSuperior, IsTaken, superior_checks, entry_checks}
use Rattle.reasons.specs.inner.Found.{Finds}
use Rattle.reasons.proofs.RecordFound.{ok_map, found_behind}
use Rattle.reasons.proofs.RenameFound.{new_rdn_found, new_rdn_fine, new_rdn_is}
use Rattle.reasons.proofs.explainer.Explainer.new_name_reason.Goals as goal

pub superior_reason-requires-clause-renames : goal.superior_reason-requires-clause-renames
superior_reason-requires-clause-renames c =
    let k = new_rdn_is c.args.self.now.conf.now c.args.newrdn.now c.in_ok-rdn.field-0 (Ok c.in-Ok.rdn) c.in-Ok.is c.in_ok-rdn.ensures in
    (c.args.newrdn.now, k.1, c.requires.renames)

pub returns-in-Ok : goal.returns-in-Ok
returns-in-Ok c =
    let conf = c.args.self.now.conf.now in
    let mode = c.args.self.now.mode in
    let d = c.args.self.now.tree.now.entries in
    let r = c.args.self.now.asked.now in
    let superior = option_map deref c.args.superior in
    let newrdn = c.args.newrdn.now in
    let rest = superior_checks superior ++ BelowItself ∷ NoSuperior ∷ IsTaken ∷ entry_checks in
    let k = new_rdn_is conf newrdn c.in_ok-rdn.field-0 (Ok c.in-Ok.rdn) c.in-Ok.is c.in_ok-rdn.ensures in
    ok_map (Finds conf mode d r rest) (Finds conf mode d r (map NewRdn (new_rdn_checks newrdn) ++ rest))
    (λ found is. found_behind conf mode d r (map NewRdn (new_rdn_checks newrdn)) rest found (new_rdn_fine conf mode d r newrdn c.args.delete_old superior c.requires.renames c.in-Ok.rdn k.0) is)
    c.superior_reason.result c.superior_reason.ensures

pub returns-in-Err : goal.returns-in-Err
returns-in-Err c =
    let conf = c.args.self.now.conf.now in
    let mode = c.args.self.now.mode in
    let d = c.args.self.now.tree.now.entries in
    let r = c.args.self.now.asked.now in
    let superior = option_map deref c.args.superior in
    let newrdn = c.args.newrdn.now in
    let k = new_rdn_is conf newrdn c.in_ok-rdn.field-0 (Err c.in-Err.why) c.in-Err.is c.in_ok-rdn.ensures in
    new_rdn_found conf mode d r newrdn c.args.delete_old superior c.requires.renames c.in-Err.why k (superior_checks superior ++ BelowItself ∷ NoSuperior ∷ IsTaken ∷ entry_checks)
