use Rattle.std.proofs.lemmas.Result.{IfOk-from_err}
use Rattle.std.proofs.Common.{refl, subst}
use Rattle.std.specs.List.{AllByRecursion}
use Rattle.dn.specs.Writing.{rdn_text}
use Rattle.schema.specs.Values.{normal_rdn}
use Rattle.schema.specs.inner.Keys.{AreKnown}
use Rattle.schema.proofs.Rest.{first_left}
use Rattle.schema.proofs.Joined.{one_put, all_put}
use Rattle.schema.proofs.dn_values.put_rdns.Goals as goal

pub loop-rdn-init : goal.loop-rdn-init
loop-rdn-init c = (refl, c.requires)

pub put_rdn-requires : goal.put_rdn-requires
put_rdn-requires c =
    (subst (AllByRecursion (AreKnown c.args.types.now)) (first_left c.args.rdns.now _ c.loop-rdn.rdn-index refl c.rdn-item.result
    c.loop-rdn-test.true c.rdn-item.is) c.loop-rdn.invariant.1).0

pub loop-rdn-preserved : goal.loop-rdn-preserved
loop-rdn-preserved c = (
  one_put 44 (λ r. rdn_text (normal_rdn c.args.types.now r)) c.args.rdns.now c.loop-rdn.rdn-index c.rdn-item.result _ c.loop-rdn.out.items
      c.extend_from_slice.new.self.items c.put_rdn.new.out.items _ c.loop-rdn-test.true c.rdn-item.is c.in_ok-extend_from_slice.ensures.items
      c.in_ok-put_rdn.ensures c.loop-rdn.invariant.0,
  (subst (AllByRecursion (AreKnown c.args.types.now)) (first_left c.args.rdns.now _ c.loop-rdn.rdn-index refl c.rdn-item.result
      c.loop-rdn-test.true c.rdn-item.is) c.loop-rdn.invariant.1).1,
)

pub returns : goal.returns
returns c =
    all_put 44 (λ r. rdn_text (normal_rdn c.args.types.now r)) c.args.rdns.now c.loop-rdn.rdn-index _ c.args.out.now.items c.loop-rdn.out.items
    c.loop-rdn-test.false c.loop-rdn.invariant.0

pub returns-in_err-put_rdn : goal.returns-in_err-put_rdn
returns-in_err-put_rdn c = IfOk-from_err _ _ c.from_residual-in_err-put_rdn.ensures.0

pub returns-in_err-extend_from_slice : goal.returns-in_err-extend_from_slice
returns-in_err-extend_from_slice c = IfOk-from_err _ _ c.from_residual.ensures.0
