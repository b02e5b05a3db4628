use Rattle.std.proofs.lemmas.Result.{IfOk-from_err}
use Rattle.std.proofs.Common.{◌∙◌, ◌++◌, refl, sym, ap}
use Rattle.std.specs.List.{join_with_byte}
use Rattle.std.proofs.lemmas.Simd.{map-map}
use Rattle.dn.specs.Writing.{rdn_text, text_of}
use Rattle.schema.specs.Rdns.{TypedRdn}
use Rattle.schema.specs.Names.{written_rdn}
use Rattle.schema.proofs.Joined.{one_put, all_put}
use Rattle.schema.proofs.names.put_rdns.Goals as goal

pub loop-rdn-init : goal.loop-rdn-init
loop-rdn-init c = refl

pub loop-rdn-preserved : goal.loop-rdn-preserved
loop-rdn-preserved c =
    let before = c.extend_from_slice.new.self.items in
    one_put 44 (λ r. rdn_text (written_rdn c.args.types.now r)) c.args.rdns.now c.loop-rdn.rdn-index c.rdn-item.result _ c.loop-rdn.out.items
    before c.put_avas.new.out.items _ c.loop-rdn-test.true c.rdn-item.is c.in_ok-extend_from_slice.ensures.items
    (c.in_ok-put_avas.ensures.put ∙ ap (λ (r : TypedRdn). before ++ rdn_text (written_rdn c.args.types.now r)) c.avas.ensures) c.loop-rdn.invariant

pub returns : goal.returns
unfolding text_of
returns c =
    all_put 44 (λ r. rdn_text (written_rdn c.args.types.now r)) c.args.rdns.now c.loop-rdn.rdn-index _ c.args.out.now.items c.loop-rdn.out.items
    c.loop-rdn-test.false c.loop-rdn.invariant
    ∙ ap (λ ts. c.args.out.now.items ++ join_with_byte 44 ts) (sym (map-map rdn_text (written_rdn c.args.types.now) c.args.rdns.now))

pub returns-in_err-put_avas : goal.returns-in_err-put_avas
returns-in_err-put_avas c = IfOk-from_err _ _ c.from_residual-in_err-put_avas.ensures.0

pub returns-in_err-extend_from_slice : goal.returns-in_err-extend_from_slice
returns-in_err-extend_from_slice c = IfOk-from_err _ _ c.from_residual.ensures.0
