use Rattle.std.proofs.Common.{sym, ◌∙◌}
use Rattle.entries.specs.EntryClasses.{has_type}
use Rattle.entries.specs.StoredEntries.{attributes_of}
use Rattle.entries.proofs.ClassLemmas.{required_at}
use Rattle.entries.proofs.LoopSteps.{all_passed}
use Rattle.reasons.proofs.explainer.Explainer.lacked_type.Goals as goal

pub returns-clause-none : goal.returns-clause-none
returns-clause-none c =
    let attrs = attributes_of c.args.attrs.now in
    let types = c.required-types.result.now in
    sym (sym (all_passed (has_type attrs) types c.loop-t.t-index c.loop-t-test.false) ∙ c.loop-t.invariant ∙ required_at c.args.self.now.conf.now attrs c.args.class types c.required-types.ensures)
