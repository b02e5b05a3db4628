use Rattle.std.proofs.Common.{◌++◌, ◌∷◌, [], sym, ◌∙◌}
use Rattle.reasons.specs.Flaws.{Full, line_checks, entry_checks}
use Rattle.reasons.specs.inner.Found.{Finds}
use Rattle.reasons.specs.inner.Lines.{AreSeen}
use Rattle.reasons.proofs.LinesFound.{kept_at}
use Rattle.reasons.proofs.RecordFound.{ok_map, found_behind, none_so}
use Rattle.reasons.proofs.explainer.Explainer.lines_and_entry_reason.Goals as goal

pub lines_reason-requires-clause-none : goal.lines_reason-requires-clause-none
lines_reason-requires-clause-none c = c.new-seen.ensures c.args.self.now.conf.now.types

pub added_reason-requires-clause-seen : goal.added_reason-requires-clause-seen
added_reason-requires-clause-seen c =
    kept_at (AreSeen c.args.self.now.conf.now.types c.args.lines.now c.lines_reason.new.seen) c.in_ok-found.found (sym c.is_some.ensures ∙ c.if-is_some.false) c.in_ok-found.ensures.seen

pub returns : goal.returns
returns c =
    let conf = c.args.self.now.conf.now in
    let mode = c.args.self.now.mode in
    let d = c.args.self.now.tree.now.entries in
    let r = c.args.self.now.asked.now in
    let lines = line_checks 0 c.args.lines.now in
    let rest = entry_checks ++ Full ∷ [] in
    ok_map (Finds conf mode d r rest) (Finds conf mode d r (lines ++ rest))
    (λ found is. found_behind conf mode d r lines rest found (none_so conf mode d r lines c.in_ok-found.found (sym c.is_some.ensures ∙ c.if-is_some.false) c.in_ok-found.ensures.found) is) c.added_reason.result c.added_reason.ensures
