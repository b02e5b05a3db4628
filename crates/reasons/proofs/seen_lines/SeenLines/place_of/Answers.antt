use Rattle.std.proofs.Common.{ℕ, List, sym, ap, subst, ◌∙◌}
use Rattle.std.specs.BTreeMap.{get}
use Rattle.paths.specs.Paths.{pair_cmp}
use Rattle.reasons.specs.inner.Lines.{ArePlacedBy, TypedValue, IsSaidBy, IsPlaceIn}
use Rattle.reasons.proofs.LinesFound.{said_at}
use Rattle.reasons.proofs.seen_lines.SeenLines.place_of.Goals as goal

pub returns-in_ok-from_slice-in-Some : goal.returns-in_ok-from_slice-in-Some
returns-in_ok-from_slice-in-Some c types lines are =
    let t = c.args.t in
    let norm = c.args.norm.now in
    let places = c.in-Some.places in
    let found = c.copied.ensures ∙ c.get.ensures.value ∙ ap (λ (n : List ℕ). get pair_cmp places (t, n)) c.in_ok-from_slice-in-Some.ensures in
    subst (IsSaidBy types lines t norm) (sym found) ((subst (ArePlacedBy types lines) c.in-Some.is are.placed).each t norm)

pub returns-in-None : goal.returns-in-None
returns-in-None c types lines are =
    let t = c.args.t in
    let norm = c.args.norm.now in
    said_at types t norm lines c.args.self.now.values.items c.place_in.result are.typed
    (subst (λ (xs : List TypedValue). IsPlaceIn t norm xs c.place_in.result) c.deref.ensures.value c.place_in.ensures)
