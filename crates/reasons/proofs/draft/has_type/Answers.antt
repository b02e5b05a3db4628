use Rattle.std.proofs.Common.{◌∙◌, ap}
use Rattle.std.specs.Prelude.{is_some}
use Rattle.entries.proofs.StoredLemmas.{copied_some, there_is}
use Rattle.reasons.proofs.draft.has_type.Goals as goal

pub returns : goal.returns
returns c = c.is_some.ensures ∙ copied_some c.values_at.result ∙ ap is_some c.values_at.ensures ∙ there_is c.args.t c.args.attrs.now
