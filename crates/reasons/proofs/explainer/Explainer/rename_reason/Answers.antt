use Rattle.std.proofs.Common.{◌++◌, ◌∷◌, map, sym, ap, ◌∙◌}
use Rattle.std.specs.Prelude.{is_some}
use Rattle.std.specs.Map.Iter.{deref}
use Rattle.std.specs.Option.{option_map}
use Rattle.entries.specs.StoredEntries.{content_of}
use Rattle.reasons.specs.NameFlaws.{new_rdn_checks}
use Rattle.reasons.specs.Flaws.{NewRdn, IsSuffix, BelowItself, NoSuperior, IsTaken, superior_checks, entry_checks, rename_checks}
use Rattle.reasons.specs.inner.Found.{Finds}
use Rattle.reasons.proofs.ModifyFound.{good_rdn}
use Rattle.reasons.proofs.RecordFound.{ok_map, no_entry, entry_there}
use Rattle.reasons.proofs.RenameFound.{suffix_found, below_suffix}
use Rattle.reasons.proofs.explainer.Explainer.rename_reason.Goals as goal

pub returns-in_default : goal.returns-in_default
returns-in_default c =
    let conf = c.args.self.now.conf.now in
    let mode = c.args.self.now.mode in
    let d = c.args.self.now.tree.now.entries in
    let r = c.args.self.now.asked.now in
    let superior = option_map deref c.args.superior in
    no_entry conf mode d r c.args.path.now c.requires.at (IsSuffix ∷ (map NewRdn (new_rdn_checks c.args.newrdn.now) ++ (superior_checks superior ++ BelowItself ∷ NoSuperior ∷ IsTaken ∷ entry_checks))) (sym (ap is_some c.in_default.ensures.entry))

pub returns-then-is_root : goal.returns-then-is_root
returns-then-is_root c =
    let conf = c.args.self.now.conf.now in
    let mode = c.args.self.now.mode in
    let d = c.args.self.now.tree.now.entries in
    let r = c.args.self.now.asked.now in
    let superior = option_map deref c.args.superior in
    let rest = map NewRdn (new_rdn_checks c.args.newrdn.now) ++ (superior_checks superior ++ BelowItself ∷ NoSuperior ∷ IsTaken ∷ entry_checks) in
    entry_there conf mode d r c.args.path.now c.requires.at (IsSuffix ∷ rest) _ (sym (ap is_some c.in-Some.ensures.entry)) (suffix_found conf mode d r c.args.path.now c.requires.at rest (sym c.is_root.ensures ∙ c.if-is_root.true))

pub new_name_reason-requires-clause-old : goal.new_name_reason-requires-clause-old
new_name_reason-requires-clause-old c =
    good_rdn c.args.self.now.conf.now c.args.self.now.tree.now.conf c.args.self.now.tree.now.entries c.args.path.now (content_of c.in-Some.entry.now) c.args.self.now.same_conf c.entries_are_a_directory.ensures c.in-Some.ensures.entry

pub returns : goal.returns
returns c =
    let conf = c.args.self.now.conf.now in
    let mode = c.args.self.now.mode in
    let d = c.args.self.now.tree.now.entries in
    let r = c.args.self.now.asked.now in
    let superior = option_map deref c.args.superior in
    let rest = map NewRdn (new_rdn_checks c.args.newrdn.now) ++ (superior_checks superior ++ BelowItself ∷ NoSuperior ∷ IsTaken ∷ entry_checks) in
    ok_map (Finds conf mode d r rest) (Finds conf mode d r (rename_checks c.args.newrdn.now superior))
    (λ found is. entry_there conf mode d r c.args.path.now c.requires.at (IsSuffix ∷ rest) found (sym (ap is_some c.in-Some.ensures.entry))
    (below_suffix conf mode d r c.args.path.now c.requires.at rest found (sym c.is_root.ensures ∙ c.if-is_root.false) is)) c.new_name_reason.result c.new_name_reason.ensures
