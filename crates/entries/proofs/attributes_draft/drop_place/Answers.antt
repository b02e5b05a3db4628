use Rattle.std.proofs.Common.{◌∙◌, sym}
use Rattle.entries.proofs.ModifyLemmas.{dropped}
use Rattle.entries.proofs.attributes_draft.drop_place.Goals as goal

pub returns-then-not-has_values-clause-place : goal.returns-then-not-has_values-clause-place
returns-then-not-has_values-clause-place c =
    dropped c.args.t c.args.attrs.now.entries c.remove.new.self.entries c.args.values.now (sym c.has_values.ensures ∙ c.if-not-has_values.true) c.remove.ensures.entries c.remove.ensures.none
