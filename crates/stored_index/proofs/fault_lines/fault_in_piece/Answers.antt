use Rattle.std.proofs.Common.{ℕ, List, Option, [], ◌++◌, refl, sym, ◌∙◌, subst}
use Rattle.stored_index.specs.inner.Drafts.{GoesOn}
use Rattle.stored_index.specs.inner.FaultLines.{LineTells, IsBad, Going}
use Rattle.stored_index.specs.declared.fault_lines.FaultLine.{FaultLine}
use Rattle.stored_index.proofs.FaultGoing.{known_more, behind_line, bad_line, bad_for}
use Rattle.stored_index.proofs.fault_lines.fault_in_piece.Goals as goal

pub loop-line-init : goal.loop-line-init
loop-line-init c = (refl, λ known going. known_more known c.args.draft.now c.args.held.now.items [] c.args.lines.now going c.args.piece.now refl)

pub returns-in-Some-2 : goal.returns-in-Some-2
returns-in-Some-2 c known going more =
    let d = c.loop-line.draft in
    let whole = c.loop-line.held.items ++ c.in-Some.line.now in
    let on = c.loop-line.invariant.1 known going in
    let told : IsBad d c.in_ok-lines.field-0 whole c.in-Some-2.fault =
    subst (λ (line : List ℕ). IsBad d c.in_ok-lines.field-0 line c.in-Some-2.fault) (c.as_slice.ensures.value ∙ c.in_ok-extend_from_slice.ensures.items)
    (subst (λ (o : Option FaultLine). LineTells d c.fault_in_line.new.draft c.in_ok-lines.field-0 c.as_slice.result.now o) c.in-Some-2.is c.in_ok-fault.ensures) in
    bad_for d.given c.args.draft.now.given c.loop-line.invariant.0 (known ++ c.args.piece.now ++ more) c.in-Some-2.fault
    (bad_line (known ++ c.args.piece.now) d c.loop-line.held.items c.loop-line.rest.now c.loop-line.lines on c.in-Some.line.now c.in-Some.next.now c.in-Some.ensures.cut
    c.in_ok-lines.field-0 c.in_ok-lines.ensures c.in-Some-2.fault told more)

pub loop-line-preserved : goal.loop-line-preserved
loop-line-preserved c =
    let d = c.loop-line.draft in
    let whole = c.loop-line.held.items ++ c.in-Some.line.now in
    let told : GoesOn d c.fault_in_line.new.draft whole =
    subst (λ (line : List ℕ). GoesOn d c.fault_in_line.new.draft line) (c.as_slice.ensures.value ∙ c.in_ok-extend_from_slice.ensures.items)
    (subst (λ (o : Option FaultLine). LineTells d c.fault_in_line.new.draft c.in_ok-lines.field-0 c.as_slice.result.now o) c.in_default-2.is c.in_ok-fault.ensures) in (
      told.given ∙ c.loop-line.invariant.0,
      λ known going.
          subst (λ (held : List ℕ). Going (known ++ c.args.piece.now) c.fault_in_line.new.draft held c.in-Some.next.now c.in_ok-lines.field-0) (sym c.clear.ensures.items)
          (behind_line (known ++ c.args.piece.now) d c.loop-line.held.items c.loop-line.rest.now c.loop-line.lines (c.loop-line.invariant.1 known going) c.in-Some.line.now c.in-Some.next.now c.in-Some.ensures.cut
          c.fault_in_line.new.draft c.in_ok-lines.field-0 c.in_ok-lines.ensures told),
    )
