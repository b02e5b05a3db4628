use Rattle.std.proofs.Common.{◌∙◌, ap}
use Rattle.std.specs.Prelude.{is_some}
use Rattle.entries.proofs.StoredLemmas.{copied_some, there_is}
use Rattle.entries.proofs.class_checks.has_type.Goals as goal

pub returns : goal.returns
returns c = c.is_some.ensures ∙ copied_some c.get.result ∙ ap is_some c.get.ensures ∙ there_is c.args.t c.args.attrs.now.entries
