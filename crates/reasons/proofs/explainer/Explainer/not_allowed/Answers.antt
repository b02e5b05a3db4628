use Rattle.std.proofs.Common.{sym, ◌∙◌}
use Rattle.entries.specs.StoredEntries.{IsMadeAttribute}
use Rattle.reasons.proofs.EntriesFound.{each_at, type_there}
use Rattle.reasons.proofs.explainer.Explainer.not_allowed.Goals as goal

pub returns-then-not-may_have-clause-some : goal.returns-then-not-may_have-clause-some
returns-then-not-may_have-clause-some c =
    let es = c.args.attrs.now in
    let i = c.loop-index.index in
    let d = c.index-attrs-index.result in
    ((each_at (IsMadeAttribute c.args.self.now.conf.now.types) es i d c.requires.made.each c.loop-index-test.true).known, type_there es i d c.loop-index-test.true, sym c.may_have.ensures ∙ c.if-not-may_have.true)
