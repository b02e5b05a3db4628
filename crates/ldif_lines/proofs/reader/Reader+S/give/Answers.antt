use Rattle.std.proofs.Common.{◌∙◌, ap, false}
use Rattle.ldif_lines.specs.inner.View.{state_of}
use Rattle.ldif_lines.specs.inner.States.{raw_of}
use Rattle.ldif_lines.specs.declared.draft.RecordDraft.{RecordDraft}
use Rattle.ldif_lines.proofs.reader.Reader+S.give.Goals as goal

pub returns-clause-record : goal.returns-clause-record
returns-clause-record g c =
    let n = c.args.self.now.count in
    c.take_record-record.ensures.record n ∙ ap (λ (m : RecordDraft). raw_of (state_of m false n)) c.replace-draft.ensures.value
