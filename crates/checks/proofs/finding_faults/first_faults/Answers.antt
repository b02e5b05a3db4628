use Rattle.std.proofs.Common.{◌≡◌, ◌<◌, ◌-◌, ◌∙◌, List, ℕ, Ok, refl, sym, ap, subst, arith}
use Rattle.std.proofs.lemmas.Grind.{common_steps}
use Rattle.definitions.specs.declared.lines.Line.{Line}
use Rattle.definitions.specs.Lines.{lines_of}
use Rattle.dir_conf.specs.Configurations.{conf_of}
use Rattle.checks.specs.declared.conf_faults.ConfLineFault.{ConfLineFault}
use Rattle.checks.specs.declared.conf_faults.FoundFault.{FoundFault}
use Rattle.checks.specs.declared.lost_names.LostNames.{LostNames}
use Rattle.checks.specs.ConfFaults.{commented}
use Rattle.checks.specs.inner.FoundFaults.{Takes, HasFound}
use Rattle.checks.proofs.FirstFaults.{no_fault, last_fault, next_fault, fails_so}
use Rattle.checks.proofs.finding_faults.first_faults.Goals as goal

-- what is taken of these lines and this text
takes_of : (lines lines' : List Line) (left left' : List ℕ) (f : ConfLineFault) (lost lost' : LostNames) (found found' : List FoundFault) → lines ≡ lines' → left ≡ left'
    → Takes lines left f lost lost' found found' → Takes lines' left' f lost lost' found found'
takes_of lines lines' left left' f lost lost' found found' same_lines same takes =
    subst (λ (ls : List Line). Takes ls left' f lost lost' found found') same_lines (subst (λ (t : List ℕ). Takes lines t f lost lost' found found') same takes)

pub returns-in-Ok : goal.returns-in-Ok
returns-in-Ok c =
    let conf = c.in-Ok.field-0 in
    no_fault c.args.text.now c.readings.left.items c.readings.room c.readings.faults.items c.readings.lost.types.items c.readings.lost.classes.items c.readings.invariant conf
    (subst (λ (t : List ℕ). conf_of t ≡ Ok conf) c.as_slice.ensures.value c.in-Ok.ensures)

pub returns-then-line-eq0 : goal.returns-then-line-eq0
returns-then-line-eq0 c =
    let text = c.args.text.now in
    let fault : ConfLineFault = record { line = c.in-Err-Line.line; kind = c.in-Err-Line.kind } in
    let none : fault.line ≡ 0 = grind (arith, common_steps) in
    let some : 0 < c.readings.room = grind (arith, common_steps) in
    let left = c.readings.left.items in
    let found = c.readings.faults.items in
    let lost = c.readings.lost in
    let lines : c.deref.result.now ≡ lines_of text = c.deref.ensures.value ∙ c.in_ok-lines.ensures in
    last_fault text left c.readings.room found lost.types.items lost.classes.items c.readings.invariant fault lost c.take_fault.new.lost c.take_fault.new.faults.items refl refl
    (takes_of _ (lines_of text) _ left fault lost c.take_fault.new.lost found c.take_fault.new.faults.items lines c.as_slice-in-Err-Line.ensures.value c.in_ok-take_fault-in-Err-Line.ensures) some
    (fails_so c.as_slice.result.now left c.as_slice.ensures.value _ fault.line fault.kind c.in-Err-Line.field-0-is c.in-Err-Line.ensures) none

pub readings-preserved : goal.readings-preserved
readings-preserved c =
    let text = c.args.text.now in
    let fault : ConfLineFault = record { line = c.in-Err-Line.line; kind = c.in-Err-Line.kind } in
    let at : 0 < fault.line = grind (arith, common_steps) in
    let some : 0 < c.readings.room = grind (arith, common_steps) in
    let left = c.readings.left.items in
    let found = c.readings.faults.items in
    let lost = c.readings.lost in
    let lines : c.deref.result.now ≡ lines_of text = c.deref.ensures.value ∙ c.in_ok-lines.ensures in
    let behind : c.in_ok-left-in-Err-Line.left.items ≡ commented (fault.line - 1) left =
    c.in_ok-left-in-Err-Line.ensures ∙ ap (commented (fault.line - 1)) c.as_slice-in-Err-Line-2.ensures.value in
    subst (λ (t : List ℕ). HasFound text t (c.readings.room - 1) c.take_fault.new.faults.items c.take_fault.new.lost.types.items c.take_fault.new.lost.classes.items) (sym behind)
    (next_fault text left c.readings.room found lost.types.items lost.classes.items c.readings.invariant fault lost c.take_fault.new.lost c.take_fault.new.faults.items refl refl
    (takes_of _ (lines_of text) _ left fault lost c.take_fault.new.lost found c.take_fault.new.faults.items lines c.as_slice-in-Err-Line.ensures.value c.in_ok-take_fault-in-Err-Line.ensures) some
    (fails_so c.as_slice.result.now left c.as_slice.ensures.value _ fault.line fault.kind c.in-Err-Line.field-0-is c.in-Err-Line.ensures) at)
