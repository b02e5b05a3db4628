use Rattle.std.proofs.Common.{Bool, ◌&&◌, nat_eq, sym, ap, ◌∙◌}
use Rattle.std.specs.Str.{bytes_eq}
use Rattle.std.proofs.lemmas.Result.{IfOk-from_err}
use Rattle.schema.specs.GoodRdns.{IsAva}
use Rattle.schema.specs.Rdns.{Ava}
use Rattle.schema.specs.Values.{norm_at}
use Rattle.entries.proofs.LoopSteps.{one_other, one_found, none_found, this_one}
use Rattle.entries.proofs.RdnsBegun.{left_of_avas}
use Rattle.reasons.proofs.explainer.Explainer.has_ava.Goals as goal

pub loop-ava-preserved : goal.loop-ava-preserved
loop-ava-preserved c =
    let avas = c.avas-ava-items.result.now in
    let test : Ava → Bool = λ q. nat_eq c.args.t q.0 && bytes_eq (norm_at c.args.self.now.conf.now.types c.args.t q.1) c.args.norm.now in
    record {
      left = left_of_avas (IsAva c.args.self.now.conf.now.types) avas c.loop-ava.ava-index c.ava-item.result c.loop-ava-test.true c.loop-ava.invariant.left;
      rest = one_other test avas c.loop-ava.ava-index c.ava-item.result c.loop-ava-test.true (ap test (sym c.ava-item.is) ∙ sym c.in_ok-is_same_ava.ensures ∙ c.if-branch.false) ∙ c.loop-ava.invariant.rest;
    }

pub returns-then-branch : goal.returns-then-branch
returns-then-branch c =
    let test : Ava → Bool = λ q. nat_eq c.args.t q.0 && bytes_eq (norm_at c.args.self.now.conf.now.types c.args.t q.1) c.args.norm.now in
    sym (one_found test c.avas-ava-items.result.now c.loop-ava.ava-index c.ava-item.result c.loop-ava-test.true (ap test (sym c.ava-item.is) ∙ sym c.in_ok-is_same_ava.ensures ∙ c.if-branch.true)) ∙ c.loop-ava.invariant.rest

pub is_same_ava-requires : goal.is_same_ava-requires
is_same_ava-requires c = this_one (IsAva c.args.self.now.conf.now.types) c.avas-ava-items.result.now c.loop-ava.ava-index c.ava-item.result c.loop-ava-test.true c.ava-item.is c.loop-ava.invariant.left

pub returns : goal.returns
returns c =
    let test : Ava → Bool = λ q. nat_eq c.args.t q.0 && bytes_eq (norm_at c.args.self.now.conf.now.types c.args.t q.1) c.args.norm.now in
    sym (none_found test c.avas-ava-items.result.now c.loop-ava.ava-index c.loop-ava-test.false) ∙ c.loop-ava.invariant.rest

pub returns-in_err-is_same_ava : goal.returns-in_err-is_same_ava
returns-in_err-is_same_ava c = IfOk-from_err _ _ c.from_residual.ensures.0
