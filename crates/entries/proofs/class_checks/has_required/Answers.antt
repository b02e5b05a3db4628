use Rattle.std.proofs.Common.{sym, ap, ◌∙◌}
use Rattle.entries.specs.EntryClasses.{has_type}
use Rattle.entries.specs.StoredEntries.{attributes_of}
use Rattle.entries.proofs.ClassLemmas.{required_at}
use Rattle.entries.proofs.LoopSteps.{one_passes, one_fails, all_passed}
use Rattle.entries.proofs.class_checks.has_required.Goals as goal

pub loop-t-preserved : goal.loop-t-preserved
loop-t-preserved c =
    let attrs = attributes_of c.args.attrs.now.entries in
    one_passes (has_type attrs) c.required-types.result.now c.loop-t.t-index c.t-item.result c.loop-t-test.true (ap (has_type attrs) (sym c.t-item.is) ∙ sym c.has_type.ensures ∙ c.if-not-has_type.false) ∙ c.loop-t.invariant

pub returns-then-not-has_type : goal.returns-then-not-has_type
returns-then-not-has_type c =
    let attrs = attributes_of c.args.attrs.now.entries in
    let types = c.required-types.result.now in
    sym (one_fails (has_type attrs) types c.loop-t.t-index c.t-item.result c.loop-t-test.true (ap (has_type attrs) (sym c.t-item.is) ∙ sym c.has_type.ensures ∙ c.if-not-has_type.true))
    ∙ c.loop-t.invariant ∙ required_at c.args.conf.now attrs c.args.class types c.required-types.ensures

pub returns : goal.returns
returns c =
    let attrs = attributes_of c.args.attrs.now.entries in
    let types = c.required-types.result.now in
    sym (all_passed (has_type attrs) types c.loop-t.t-index c.loop-t-test.false)
    ∙ c.loop-t.invariant ∙ required_at c.args.conf.now attrs c.args.class types c.required-types.ensures
