use Rattle.std.proofs.Common.{◌∙◌}
use Rattle.std.proofs.lemmas.Result.{IfOk-from_err}
use Rattle.schema.specs.GoodRdns.{IsAva}
use Rattle.entries.specs.StoredEntries.{attributes_of}
use Rattle.entries.proofs.LoopSteps.{old_ava_out, old_avas_out, this_one}
use Rattle.entries.proofs.RdnsBegun.{left_of_avas}
use Rattle.reasons.proofs.explainer.Explainer.take_rdn.Goals as goal

pub loop-ava-preserved : goal.loop-ava-preserved
loop-ava-preserved c =
    let types = c.args.self.now.conf.now.types in
    let avas = c.avas-ava-items.result.now in
    record {
      made = c.in_ok-take_ava.ensures.made;
      left = left_of_avas (IsAva types) avas c.loop-ava.ava-index c.ava-item.result c.loop-ava-test.true c.loop-ava.invariant.left;
      rest = old_ava_out types c.args.new.now avas c.loop-ava.ava-index (attributes_of c.loop-ava.attrs.items) c.ava-item.result (attributes_of c.take_ava.new.attrs.items) c.loop-ava-test.true c.ava-item.is c.in_ok-take_ava.ensures.values ∙ c.loop-ava.invariant.rest;
    }

pub returns-clause-values : goal.returns-clause-values
returns-clause-values c = old_avas_out c.args.self.now.conf.now.types c.args.new.now c.avas-ava-items.result.now c.loop-ava.ava-index (attributes_of c.loop-ava.attrs.items) c.loop-ava-test.false ∙ c.loop-ava.invariant.rest

pub returns-in_err-take_ava-clause-made : goal.returns-in_err-take_ava-clause-made
returns-in_err-take_ava-clause-made c = IfOk-from_err _ _ c.from_residual.ensures.0

pub returns-in_err-take_ava-clause-values : goal.returns-in_err-take_ava-clause-values
returns-in_err-take_ava-clause-values c = IfOk-from_err _ _ c.from_residual.ensures.0

pub take_ava-requires-clause-ava : goal.take_ava-requires-clause-ava
take_ava-requires-clause-ava c = this_one (IsAva c.args.self.now.conf.now.types) c.avas-ava-items.result.now c.loop-ava.ava-index c.ava-item.result c.loop-ava-test.true c.ava-item.is c.loop-ava.invariant.left
