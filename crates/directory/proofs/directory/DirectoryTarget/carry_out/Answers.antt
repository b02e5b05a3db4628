use Rattle.std.proofs.Common.{ap, ◌∙◌, sym}
use Rattle.std.specs.Prelude.{Err}
use Rattle.entries.specs.declared.refusal.Refusal.{Refusal}
use Rattle.directory.proofs.RefusedEdits.{refused_edits}
use Rattle.directory.proofs.directory.DirectoryTarget.carry_out.Goals as goal

pub returns-in-Err-clause-edits : goal.returns-in-Err-clause-edits
returns-in-Err-clause-edits c = refused_edits c.args.self.now.conf c.args.mode c.args.self.now.entries c.args.asked.now c.args.self.now.edits c.apply.new.self.edits c.in-Err.refusal c.in-Err.ensures.gives
    (λ code is. c.in-Err.ensures.refused code (ap Err is)) c.in-Err.ensures.wanting
