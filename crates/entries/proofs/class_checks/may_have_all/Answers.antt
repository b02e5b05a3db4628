use Rattle.std.proofs.Common.{sym, ◌∙◌}
use Rattle.entries.specs.inner.ClassChecks.{may_have}
use Rattle.entries.proofs.LoopSteps.{attribute_passes, attribute_fails, attribute_made, attributes_passed}
use Rattle.entries.proofs.class_checks.may_have_all.Goals as goal

pub may_have-requires-clause-known : goal.may_have-requires-clause-known
may_have-requires-clause-known c = (attribute_made (λ a. may_have c.args.conf.now c.args.named.now a.0) c.loop-t.t-iterator c.next.new.self _ c.in-Some.ensures.steps c.args.conf.now.types c.loop-t.invariant.known).0.known

pub loop-t-preserved : goal.loop-t-preserved
loop-t-preserved c = record {
  known = (attribute_made (λ a. may_have c.args.conf.now c.args.named.now a.0) c.loop-t.t-iterator c.next.new.self _ c.in-Some.ensures.steps c.args.conf.now.types c.loop-t.invariant.known).1;
  rest = attribute_passes (λ a. may_have c.args.conf.now c.args.named.now a.0) c.loop-t.t-iterator c.next.new.self _ c.in-Some.ensures.steps (sym c.may_have.ensures ∙ c.if-not-may_have.false) ∙ c.loop-t.invariant.rest;
}

pub returns-then-not-may_have : goal.returns-then-not-may_have
returns-then-not-may_have c = sym (sym c.loop-t.invariant.rest ∙ attribute_fails (λ a. may_have c.args.conf.now c.args.named.now a.0) c.loop-t.t-iterator c.next.new.self _ c.in-Some.ensures.steps (sym c.may_have.ensures ∙ c.if-not-may_have.true))

pub returns : goal.returns
returns c = sym (sym c.loop-t.invariant.rest ∙ attributes_passed (λ a. may_have c.args.conf.now c.args.named.now a.0) c.loop-t.t-iterator c.in-None.ensures.steps.0)
