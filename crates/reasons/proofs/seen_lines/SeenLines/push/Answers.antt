use Rattle.std.proofs.Common.{◌≡◌, ◌∷◌, [], ◌++◌, length, sym, subst, ◌∙◌, arith}
use Rattle.reasons.specs.inner.Lines.{AreTyped}
use Rattle.reasons.proofs.LinesFound.{typed_more, as_many}
use Rattle.reasons.proofs.seen_lines.SeenLines.push.Goals as goal

pub returns : goal.returns
returns c types lines l are is =
    let values = c.args.self.now.values in
    let same : length values.items ≡ length lines = as_many types lines values.items are.typed in
    let index : c.len-index.result ≡ length lines = omega (arith, values.ok.0, c.len-index.ensures, same) in
    record {
      typed = subst (AreTyped types (lines ++ l ∷ [])) (sym c.in_ok-push.ensures.items) (typed_more types lines values.items l (c.args.t, c.args.value) are.typed is);
      placed = c.in_ok-keep_place.ensures types lines l are.placed index is.type_is (c.norm.ensures ∙ is.norm_is);
    }
