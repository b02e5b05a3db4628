use Rattle.std.proofs.lemmas.Result.{IfOk-from_err}
use Rattle.std.proofs.Common.{List, ℕ, ◌++◌, ◌∙◌, refl, sym, ap}
use Rattle.std.specs.List.{join_with_byte}
use Rattle.std.proofs.lemmas.Simd.{map-map}
use Rattle.dn.specs.Writing.{ava_text}
use Rattle.schema.specs.Values.{normal_ava}
use Rattle.schema.proofs.Joined.{one_put, all_put}
use Rattle.schema.proofs.dn_values.put_avas.Goals as goal

pub loop-pair-init : goal.loop-pair-init
loop-pair-init c = refl

pub loop-pair-preserved : goal.loop-pair-preserved
loop-pair-preserved c =
    let pair = c.pair-item.result in
    let before = c.extend_from_slice.new.self.items in
    one_put 43 (λ p. ava_text (normal_ava c.args.types.now p)) c.args.pairs.now c.loop-pair.pair-index pair _ c.loop-pair.out.items before
    c.put_ava.new.out.items _ c.loop-pair-test.true c.pair-item.is c.in_ok-extend_from_slice.ensures.items
    (c.in_ok-put_ava.ensures ∙ ap (λ (v : List ℕ). before ++ ava_text (normal_ava c.args.types.now (pair.0, v))) c.as_slice.ensures)
    c.loop-pair.invariant

pub returns : goal.returns
returns c =
    all_put 43 (λ p. ava_text (normal_ava c.args.types.now p)) c.args.pairs.now c.loop-pair.pair-index _ c.args.out.now.items
    c.loop-pair.out.items c.loop-pair-test.false c.loop-pair.invariant
    ∙ ap (λ ts. c.args.out.now.items ++ join_with_byte 43 ts) (sym (map-map ava_text (normal_ava c.args.types.now) c.args.pairs.now))

pub returns-in_err-put_ava : goal.returns-in_err-put_ava
returns-in_err-put_ava c = IfOk-from_err _ _ c.from_residual-in_err-put_ava.ensures.0

pub returns-in_err-extend_from_slice : goal.returns-in_err-extend_from_slice
returns-in_err-extend_from_slice c = IfOk-from_err _ _ c.from_residual.ensures.0
