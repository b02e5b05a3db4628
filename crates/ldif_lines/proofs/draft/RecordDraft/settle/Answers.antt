use Rattle.std.proofs.Common.{sym, ◌∙◌, ap, Bool, false}
use Rattle.ldif_lines.specs.inner.View.{state_of}
use Rattle.ldif_lines.specs.inner.States.{settle}
use Rattle.ldif_lines.proofs.draft.RecordDraft.settle.Goals as goal

pub returns : goal.returns
returns c = λ count e. c.in_ok-put.ensures false count (e c.if-not-after_return.false) ∙ sym (ap (λ (b : Bool). settle (state_of c.args.self.now b count)) c.if-not-after_return.false)
