use Rattle.std.proofs.Common.{ℕ, List, [], ◌++◌, refl, sym, ap, ◌∙◌, subst}
use Rattle.std.proofs.lemmas.List.{append-nil}
use Rattle.base.specs.Answers.{Fails}
use Rattle.stored_index.specs.Gives.{kind_of}
use Rattle.stored_index.specs.inner.Drafts.{Reading, read_by}
use Rattle.stored_index.specs.declared.fault.LineFault.{LineFault}
use Rattle.stored_index.proofs.FaultGoing.{awaits, bad_end}
use Rattle.stored_index.proofs.fault_lines.fault_at_end.Goals as goal

pub returns-in-Ok : goal.returns-in-Ok
returns-in-Ok c known going =
    let W : List ℕ → Reading = λ text. read_by c.args.draft.given (known ++ text) in
    let read = c.in-Ok.ensures.ok W (awaits known c.args.draft c.args.held.now [] c.args.lines going) in
    (read.0, ap (read_by c.args.draft.given) (sym (append-nil known)) ∙ read.1)

pub returns-in_ok-text-in-Err-Fault : goal.returns-in_ok-text-in-Err-Fault
returns-in_ok-text-in-Err-Fault c known going =
    let W : List ℕ → Reading = λ text. read_by c.args.draft.given (known ++ text) in
    let fails = subst (λ (e : LineFault). Fails (kind_of e) (W [])) c.in-Err-Fault.field-0-is (c.in-Err-Fault.ensures.err W (awaits known c.args.draft c.args.held.now [] c.args.lines going)) in
    bad_end known c.args.draft c.args.held.now [] c.args.lines going refl _ c.in_ok-number-in-Err-Fault.ensures c.in_ok-text-in-Err-Fault.ensures (ap (read_by c.args.draft.given) (sym (append-nil known)) ∙ fails)
