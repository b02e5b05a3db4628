use Rattle.std.proofs.Common.{Bool, sym, ap, ◌∙◌}
use Rattle.std.proofs.lemmas.Result.{IfOk-from_err}
use Rattle.schema.specs.GoodRdns.{IsAva}
use Rattle.schema.specs.Rdns.{Ava}
use Rattle.entries.specs.Entries.{values_of, has_equal}
use Rattle.entries.specs.StoredEntries.{attributes_of}
use Rattle.entries.proofs.LoopSteps.{one_passes, one_fails, all_passed, this_one}
use Rattle.entries.proofs.RdnsBegun.{left_of_avas}
use Rattle.entries.proofs.rdn_values.has_rdn.Goals as goal

pub loop-ava-preserved : goal.loop-ava-preserved
loop-ava-preserved c =
    let avas = c.avas-ava-items.result.now in
    let test : Ava → Bool = λ p. has_equal c.args.conf.now.types p.0 p.1 (values_of (attributes_of c.args.attrs.now.entries) p.0) in
    record {
      left = left_of_avas (IsAva c.args.conf.now.types) avas c.loop-ava.ava-index c.ava-item.result c.loop-ava-test.true c.loop-ava.invariant.left;
      rest = one_passes test avas c.loop-ava.ava-index c.ava-item.result c.loop-ava-test.true (ap test (sym c.ava-item.is) ∙ sym c.in_ok-has_value.ensures ∙ c.if-not-branch.false) ∙ c.loop-ava.invariant.rest;
    }

pub returns-then-not-branch : goal.returns-then-not-branch
returns-then-not-branch c =
    let test : Ava → Bool = λ p. has_equal c.args.conf.now.types p.0 p.1 (values_of (attributes_of c.args.attrs.now.entries) p.0) in
    sym (one_fails test c.avas-ava-items.result.now c.loop-ava.ava-index c.ava-item.result c.loop-ava-test.true (ap test (sym c.ava-item.is) ∙ sym c.in_ok-has_value.ensures ∙ c.if-not-branch.true)) ∙ c.loop-ava.invariant.rest

pub has_value-requires-clause-ava : goal.has_value-requires-clause-ava
has_value-requires-clause-ava c = this_one (IsAva c.args.conf.now.types) c.avas-ava-items.result.now c.loop-ava.ava-index c.ava-item.result c.loop-ava-test.true c.ava-item.is c.loop-ava.invariant.left

pub returns : goal.returns
returns c =
    let test : Ava → Bool = λ p. has_equal c.args.conf.now.types p.0 p.1 (values_of (attributes_of c.args.attrs.now.entries) p.0) in
    sym (all_passed test c.avas-ava-items.result.now c.loop-ava.ava-index c.loop-ava-test.false) ∙ c.loop-ava.invariant.rest

pub returns-in_err-has_value : goal.returns-in_err-has_value
returns-in_err-has_value c = IfOk-from_err _ _ c.from_residual.ensures.0
