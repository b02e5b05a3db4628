use Rattle.std.proofs.Common.{ℕ, List, Some, cond, ap, ◌∙◌}
use Rattle.std.specs.BTreeMap.{get}
use Rattle.std.specs.Ordering.{is_eq}
use Rattle.paths.specs.Paths.{pair_cmp}
use Rattle.schema.specs.Values.{norm_at}
use Rattle.reasons.proofs.LinesFound.{placed_more}
use Rattle.reasons.proofs.seen_lines.put_place.Goals as goal

pub returns : goal.returns
returns c types lines l placed counted known norm_is =
    let t = c.args.t in
    let old = c.args.places.now in
    placed_more types lines l t known old c.insert.new.self placed
    (λ q. c.in_ok-insert.ensures.updates.0 q
    ∙ ap (λ (n : List ℕ). cond (is_eq (pair_cmp (t, n) q)) (Some c.args.index) (get pair_cmp old q)) (c.in_ok-from_slice.ensures ∙ norm_is)
    ∙ ap (λ (i : ℕ). cond (is_eq (pair_cmp (t, norm_at types t l.value) q)) (Some i) (get pair_cmp old q)) counted)
