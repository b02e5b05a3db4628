use Rattle.std.proofs.lemmas.Result.{IfOk-from_err}
use Rattle.std.proofs.Common.{◌++◌, ◌∙◌, sym, ap, refl, subst}
use Rattle.std.specs.List.{join_with_byte}
use Rattle.std.proofs.lemmas.Simd.{map-map}
use Rattle.base.specs.Extends.{Extends}
use Rattle.base.proofs.Extended.{extends_put, extends_same, extends_on, on_err_too}
use Rattle.dn.specs.Writing.{ava_text}
use Rattle.schema.specs.Names.{written_ava}
use Rattle.schema.proofs.Joined.{one_put, all_put}
use Rattle.schema.proofs.names.put_avas.Goals as goal

pub loop-ava-init : goal.loop-ava-init
loop-ava-init c = record { put = refl; kept = extends_same c.args.out.now.items }

pub returns-in_err-put_ava-clause-kept : goal.returns-in_err-put_ava-clause-kept
returns-in_err-put_ava-clause-kept c =
    let before = c.loop-ava.out.items in
    let sign = subst (Extends before) (sym c.in_ok-extend_from_slice.ensures.items) (extends_put before _) in
    on_err_too c.from_residual-in_err-put_ava.result
    (extends_on _ _ _ c.loop-ava.invariant.kept (extends_on _ _ _ sign c.in_err-put_ava.ensures.kept))

pub loop-ava-preserved : goal.loop-ava-preserved
loop-ava-preserved c =
    let before = c.loop-ava.out.items in
    let sign = subst (Extends before) (sym c.in_ok-extend_from_slice.ensures.items) (extends_put before _) in
    let ava = subst (Extends c.extend_from_slice.new.self.items) (sym c.in_ok-put_ava.ensures.put)
    (extends_put c.extend_from_slice.new.self.items _) in
    record {
      put = one_put 43 (λ p. ava_text (written_ava c.args.types.now p)) c.args.avas.now c.loop-ava.ava-index c.ava-item.result _ before
          c.extend_from_slice.new.self.items c.put_ava.new.out.items _ c.loop-ava-test.true c.ava-item.is c.in_ok-extend_from_slice.ensures.items
          c.in_ok-put_ava.ensures.put c.loop-ava.invariant.put;
      kept = extends_on _ _ _ c.loop-ava.invariant.kept (extends_on _ _ _ sign ava);
    }

pub returns-clause-put : goal.returns-clause-put
returns-clause-put c =
    all_put 43 (λ p. ava_text (written_ava c.args.types.now p)) c.args.avas.now c.loop-ava.ava-index _ c.args.out.now.items c.loop-ava.out.items
    c.loop-ava-test.false c.loop-ava.invariant.put
    ∙ ap (λ ts. c.args.out.now.items ++ join_with_byte 43 ts) (sym (map-map ava_text (written_ava c.args.types.now) c.args.avas.now))

pub returns-in_err-put_ava-clause-put : goal.returns-in_err-put_ava-clause-put
returns-in_err-put_ava-clause-put c = IfOk-from_err _ _ c.from_residual-in_err-put_ava.ensures.0

pub returns-in_err-extend_from_slice-clause-put : goal.returns-in_err-extend_from_slice-clause-put
returns-in_err-extend_from_slice-clause-put c = IfOk-from_err _ _ c.from_residual.ensures.0

pub returns-in_err-extend_from_slice-clause-kept : goal.returns-in_err-extend_from_slice-clause-kept
returns-in_err-extend_from_slice-clause-kept c = on_err_too c.from_residual.result
    (subst (Extends c.args.out.now.items) (sym c.in_err-extend_from_slice.ensures.items) c.loop-ava.invariant.kept)
