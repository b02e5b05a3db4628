use Rattle.std.proofs.Common.{◌++◌, ◌∷◌, Ok, Err}
use Rattle.std.specs.Map.Iter.{deref}
use Rattle.std.specs.Option.{option_map}
use Rattle.reasons.specs.Flaws.{BelowItself, NoSuperior, IsTaken, superior_checks, entry_checks}
use Rattle.reasons.specs.inner.Found.{Finds}
use Rattle.reasons.proofs.RecordFound.{ok_map, found_behind}
use Rattle.reasons.proofs.RenameFound.{superior_found, superior_fine, upper_is}
use Rattle.reasons.proofs.explainer.Explainer.superior_reason.Goals as goal

pub moved_reason-requires-clause-moves : goal.moved_reason-requires-clause-moves
moved_reason-requires-clause-moves c =
    let superior = option_map deref c.args.superior in
    record {
      newrdn = c.requires.renames.0;
      superior = superior;
      renames = c.requires.renames.2;
      at = c.requires.at;
      found = c.requires.there;
      spelled = c.requires.renames.1;
      below = upper_is c.args.self.now.conf.now c.args.path.now superior c.in_ok-upper.field-0 (Ok c.in-Ok.upper) c.in-Ok.is c.in_ok-upper.ensures;
    }

pub returns-in-Ok : goal.returns-in-Ok
returns-in-Ok c =
    let conf = c.args.self.now.conf.now in
    let mode = c.args.self.now.mode in
    let d = c.args.self.now.tree.now.entries in
    let r = c.args.self.now.asked.now in
    let superior = option_map deref c.args.superior in
    let rest = BelowItself ∷ NoSuperior ∷ IsTaken ∷ entry_checks in
    let below = upper_is conf c.args.path.now superior c.in_ok-upper.field-0 (Ok c.in-Ok.upper) c.in-Ok.is c.in_ok-upper.ensures in
    ok_map (Finds conf mode d r rest) (Finds conf mode d r (superior_checks superior ++ rest))
    (λ found is. found_behind conf mode d r (superior_checks superior) rest found (superior_fine conf mode d r c.requires.renames.0 c.args.delete_old superior c.requires.renames.2 c.args.path.now c.in-Ok.upper below) is)
    c.moved_reason.result c.moved_reason.ensures

pub returns-in-Err : goal.returns-in-Err
returns-in-Err c =
    let conf = c.args.self.now.conf.now in
    let mode = c.args.self.now.mode in
    let d = c.args.self.now.tree.now.entries in
    let r = c.args.self.now.asked.now in
    let superior = option_map deref c.args.superior in
    let k = upper_is conf c.args.path.now superior c.in_ok-upper.field-0 (Err c.in-Err.why) c.in-Err.is c.in_ok-upper.ensures in
    superior_found conf mode d r c.requires.renames.0 c.args.delete_old superior c.requires.renames.2 c.in-Err.why k.0 k.1 k.2 (BelowItself ∷ NoSuperior ∷ IsTaken ∷ entry_checks)
