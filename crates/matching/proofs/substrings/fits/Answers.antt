use Rattle.std.proofs.Common.{◌≡◌, ap, sym, ◌∙◌, [], length}
use Rattle.std.proofs.lemmas.List.{nil_from_length}
use Rattle.std.proofs.lemmas.Bool.{eqb-true, eq-eqb}
use Rattle.matching.proofs.Stretches.{with_star, no_pieces, first_stands, first_missing}
use Rattle.matching.proofs.substrings.fits.Goals as goal

pub returns-then-front : goal.returns-then-front
returns-then-front c =
    let both = with_star c.args.front c.args.back c.args.pieces.now c.args.text.now c.if-front.true in
    (λ on. both.0 (c.stand_in_order.ensures.0 on), λ f. c.stand_in_order.ensures.1 (both.1 f))

pub returns-in-None : goal.returns-in-None
returns-in-None c =
    let none : c.args.pieces.now ≡ [] = nil_from_length c.args.pieces.now c.in-None.ensures.cases in
    let both = no_pieces c.args.front c.args.back c.args.text.now c.if-front.false in
    rw none (λ on. both.0 (nil_from_length c.args.text.now (eqb-true _ _ (sym c.is_empty.ensures ∙ on))), λ f. c.is_empty.ensures ∙ eq-eqb _ _ (ap length (both.1 f)))

pub returns-in-Some-after_prefix : goal.returns-in-Some-after_prefix
returns-in-Some-after_prefix c =
    first_stands c.args.front c.args.back c.args.pieces.now c.in-Some.first.now c.in-Some.others.now c.as_slice.result.now c.args.text.now c.in-Some-after_prefix.rest.now
    c.stand_in_order-in-Some-after_prefix.result c.if-front.false c.in-Some.ensures.cases.0 c.as_slice.ensures c.in-Some-after_prefix.ensures c.stand_in_order-in-Some-after_prefix.ensures

pub returns-in-None-after_prefix : goal.returns-in-None-after_prefix
returns-in-None-after_prefix c = (
  λ no. absurd cc,
  λ f. absurd (first_missing c.args.front c.args.back c.args.pieces.now c.in-Some.first.now c.in-Some.others.now c.as_slice.result.now c.args.text.now c.if-front.false
      c.in-Some.ensures.cases.0 c.as_slice.ensures c.in-None-after_prefix.ensures f),
)
