use Rattle.std.proofs.Common.{sym, ◌∙◌}
use Rattle.entries.specs.Entries.{is_single}
use Rattle.entries.proofs.LoopSteps.{attribute_passes, attribute_fails, attribute_made, attributes_passed}
use Rattle.entries.proofs.entry_checks.are_single.Goals as goal

pub is_single-requires : goal.is_single-requires
is_single-requires c = (attribute_made (is_single c.args.conf.now.types) c.loop-t.t-iterator c.next.new.self _ c.in-Some.ensures.steps c.args.conf.now.types c.loop-t.invariant.known).0.known

pub loop-t-preserved : goal.loop-t-preserved
loop-t-preserved c = record {
  known = (attribute_made (is_single c.args.conf.now.types) c.loop-t.t-iterator c.next.new.self _ c.in-Some.ensures.steps c.args.conf.now.types c.loop-t.invariant.known).1;
  rest = attribute_passes (is_single c.args.conf.now.types) c.loop-t.t-iterator c.next.new.self _ c.in-Some.ensures.steps (sym c.is_single.ensures ∙ c.if-not-is_single.false) ∙ c.loop-t.invariant.rest;
}

pub returns-then-not-is_single : goal.returns-then-not-is_single
returns-then-not-is_single c = sym (sym c.loop-t.invariant.rest ∙ attribute_fails (is_single c.args.conf.now.types) c.loop-t.t-iterator c.next.new.self _ c.in-Some.ensures.steps (sym c.is_single.ensures ∙ c.if-not-is_single.true))

pub returns : goal.returns
returns c = sym (sym c.loop-t.invariant.rest ∙ attributes_passed (is_single c.args.conf.now.types) c.loop-t.t-iterator c.in-None.ensures.steps.0)
