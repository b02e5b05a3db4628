use Rattle.std.proofs.Common.{ℕ, List, [], ◌∷◌, ◌++◌, map, refl, ap, ◌∙◌}
use Rattle.base.proofs.Extended.{on_err_too}
use Rattle.index_text.proofs.Putting.{none_begun, begun_as}
use Rattle.index_text.specs.IndexTexts.{ended, key_line}
use Rattle.index_keys.specs.RankedKeys.{Ranked}
use Rattle.index_keys.specs.inner.Fronts.{under}
use Rattle.index_keys.proofs.RowsInOrder.{row_is, first_row_is}
use Rattle.index_keys.proofs.rows.put_row.Goals as goal

pub returns-clause-text : goal.returns-clause-text
returns-clause-text g c =
    let first : Ranked = g.K.RankedKey.pair c.args.first.now in
    let others : List Ranked = map g.K.RankedKey.pair c.args.others.now in
    let ranks : List ℕ = c.take_ranks.new.ranks.items in (
      ended (key_line (first.0, ranks)),
      c.in_ok-put_line.ensures.put ∙ ap (λ (rs : List ℕ). c.args.out.now.items ++ ended (key_line (first.0, rs))) c.as_slice.ensures.value,
      row_is first others (map g.K.RankedKey.pair c.in_ok-rest.rest.now) ranks
          (c.in_ok-rest.ensures.parts
          ∙ ap (λ (rs : List ℕ). under first.0 rs ++ others) (c.in_ok-push.ensures.items ∙ ap (λ (rs : List ℕ). rs ++ c.rank.result ∷ []) c.clear.ensures.items)
          ∙ ap (λ (r : ℕ). (first.0, r) ∷ others) c.rank.ensures)
          c.in_ok-rest.ensures.others,
    )

pub returns-clause-fewer : goal.returns-clause-fewer
returns-clause-fewer g c = c.in_ok-rest.ensures.fewer

pub returns-clause-kept : goal.returns-clause-kept
returns-clause-kept g c = tt

pub returns-in_err-push-clause-kept : goal.returns-in_err-push-clause-kept
returns-in_err-push-clause-kept g c = on_err_too _ (none_begun _ c.args.out.now.items _ refl)

pub returns-in_err-rest-clause-kept : goal.returns-in_err-rest-clause-kept
returns-in_err-rest-clause-kept g c = on_err_too _ (none_begun _ c.args.out.now.items _ refl)

pub returns-in_err-put_line-clause-kept : goal.returns-in_err-put_line-clause-kept
returns-in_err-put_line-clause-kept g c =
    let first : Ranked = g.K.RankedKey.pair c.args.first.now in
    let others : List Ranked = map g.K.RankedKey.pair c.args.others.now in
    let ranks : List ℕ = c.take_ranks.new.ranks.items in
    on_err_too _
    (begun_as c.args.out.now.items c.put_line.new.out.items
    (ap (λ (rs : List ℕ). ended (key_line (first.0, rs))) c.as_slice.ensures.value
    ∙ first_row_is first others (map g.K.RankedKey.pair c.in_ok-rest.rest.now) ranks
    (c.in_ok-rest.ensures.parts
    ∙ ap (λ (rs : List ℕ). under first.0 rs ++ others) (c.in_ok-push.ensures.items ∙ ap (λ (rs : List ℕ). rs ++ c.rank.result ∷ []) c.clear.ensures.items)
    ∙ ap (λ (r : ℕ). (first.0, r) ∷ others) c.rank.ensures)
    c.in_ok-rest.ensures.others)
    c.in_err-put_line.ensures.kept)
