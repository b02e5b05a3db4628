use Rattle.std.proofs.Common.{◌++◌, ◌∷◌, [], sym, ◌∙◌}
use Rattle.reasons.specs.Flaws.{NoParent, Full, line_checks, entry_checks, add_checks}
use Rattle.reasons.specs.inner.Found.{Finds}
use Rattle.reasons.proofs.AddFound.{at_place_of, there_found, parent_found, may_come}
use Rattle.reasons.proofs.RecordFound.{ok_map}
use Rattle.reasons.proofs.explainer.Explainer.add_reason.Goals as goal

pub returns-then-is_there : goal.returns-then-is_there
returns-then-is_there c =
    let conf = c.args.self.now.conf.now in
    let mode = c.args.self.now.mode in
    let d = c.args.self.now.tree.now.entries in
    let r = c.args.self.now.asked.now in
    let path = c.args.place.now.path in
    there_found conf mode d r path (at_place_of conf mode d r path c.args.place.now.rdn c.requires.stands) (NoParent ∷ (line_checks 0 c.args.lines.now ++ (entry_checks ++ Full ∷ []))) (sym c.is_there.ensures ∙ c.if-is_there.true)

pub returns-then-branch : goal.returns-then-branch
returns-then-branch c =
    let conf = c.args.self.now.conf.now in
    let mode = c.args.self.now.mode in
    let d = c.args.self.now.tree.now.entries in
    let r = c.args.self.now.asked.now in
    let path = c.args.place.now.path in
    parent_found conf mode d r path (at_place_of conf mode d r path c.args.place.now.rdn c.requires.stands) (sym c.is_there.ensures ∙ c.if-is_there.false) (line_checks 0 c.args.lines.now ++ (entry_checks ++ Full ∷ []))
    (sym c.in_ok-lacks_parent.ensures ∙ c.if-branch.true)

pub returns : goal.returns
returns c =
    let conf = c.args.self.now.conf.now in
    let mode = c.args.self.now.mode in
    let d = c.args.self.now.tree.now.entries in
    let r = c.args.self.now.asked.now in
    let path = c.args.place.now.path in
    let rest = line_checks 0 c.args.lines.now ++ (entry_checks ++ Full ∷ []) in
    ok_map (Finds conf mode d r rest) (Finds conf mode d r (add_checks c.args.lines.now))
    (λ found is. may_come conf mode d r path (at_place_of conf mode d r path c.args.place.now.rdn c.requires.stands) (sym c.is_there.ensures ∙ c.if-is_there.false) rest found (sym c.in_ok-lacks_parent.ensures ∙ c.if-branch.false) is)
    c.lines_and_entry_reason.result c.lines_and_entry_reason.ensures
