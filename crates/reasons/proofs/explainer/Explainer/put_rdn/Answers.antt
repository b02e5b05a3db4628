use Rattle.std.proofs.Common.{◌∙◌}
use Rattle.std.proofs.lemmas.Result.{IfOk-from_err}
use Rattle.schema.specs.Rdns.{Ava, TypedRdn}
use Rattle.schema.specs.GoodRdns.{IsAva}
use Rattle.entries.specs.Entries.{Attributes}
use Rattle.entries.specs.StoredEntries.{attributes_of}
use Rattle.entries.proofs.LoopSteps.{this_one}
use Rattle.entries.proofs.RdnsBegun.{rest_of_avas, left_of_avas}
use Rattle.reasons.proofs.explainer.Explainer.put_rdn.Goals as goal

pub loop-ava-preserved : goal.loop-ava-preserved
loop-ava-preserved c =
    let types = c.args.self.now.conf.now.types in
    let avas : TypedRdn = c.avas-ava-items.result.now in
    let ava : Ava = c.ava-item.result in
    let now : Attributes = attributes_of c.loop-ava.attrs.items in
    let next : Attributes = attributes_of c.put_ava.new.attrs.items in
    record {
      made = c.in_ok-put_ava.ensures.made;
      left = left_of_avas (IsAva types) avas c.loop-ava.ava-index ava c.loop-ava-test.true c.loop-ava.invariant.left;
      rest = rest_of_avas types avas c.loop-ava.ava-index ava now next c.loop-ava-test.true c.ava-item.is c.in_ok-put_ava.ensures.values ∙ c.loop-ava.invariant.rest;
    }

pub returns-in_err-put_ava-clause-made : goal.returns-in_err-put_ava-clause-made
returns-in_err-put_ava-clause-made c = IfOk-from_err _ _ c.from_residual.ensures.0

pub returns-in_err-put_ava-clause-values : goal.returns-in_err-put_ava-clause-values
returns-in_err-put_ava-clause-values c = IfOk-from_err _ _ c.from_residual.ensures.0

pub put_ava-requires-clause-ava : goal.put_ava-requires-clause-ava
put_ava-requires-clause-ava c = this_one (IsAva c.args.self.now.conf.now.types) c.avas-ava-items.result.now c.loop-ava.ava-index c.ava-item.result c.loop-ava-test.true c.ava-item.is c.loop-ava.invariant.left
