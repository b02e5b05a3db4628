use Rattle.std.proofs.Common.{◌≡◌, ◌+◌, arith, sym, ◌∙◌, ap, length, ◌<◌, Bool, false}
use Rattle.std.proofs.lemmas.Bool.Decides.{nat_tests}
use Rattle.ldif_lines.specs.inner.View.{state_of}
use Rattle.ldif_lines.specs.inner.States.{gives}
use Rattle.ldif_lines.proofs.DraftLemmas.{draft}
use Rattle.ldif_lines.proofs.StateLemmas.{state, gives-line, gives-skip, gives-end}
use Rattle.ldif_lines.proofs.draft.RecordDraft.end_line.Goals as goal

pub returns-then-self-clause-goes_on : goal.returns-then-self-clause-goes_on
returns-then-self-clause-goes_on c = λ e after_return count only rest.
    let m = c.args.self.now in
    let s = state_of m after_return count in
    gives-line only s rest c.if-self.true (λ f. omega (arith, m.kept c.if-self.true f))

pub returns-then-not-is_empty-clause-ends : goal.returns-then-not-is_empty-clause-ends
returns-then-not-is_empty-clause-ends c = λ e after_return count only rest.
    let m = c.args.self.now in
    let s = state_of m after_return count in
    let some : 0 < length s.draft.lines = grind (arith, nat_tests) in
    gives-end only s rest c.if-self.false some

pub returns-clause-goes_on : goal.returns-clause-goes_on
returns-clause-goes_on c = λ e after_return count only rest.
    let m = c.args.self.now in
    let s = state_of m after_return count in
    let none : length s.draft.lines ≡ 0 = grind (arith, nat_tests) in
    gives-skip only s rest c.if-self.false none
    ∙ ap (λ (i : Bool). gives only (state (draft s.draft.numbers false s.draft.lines) s.first (count + 1) i false) rest) (sym c.if-self.false)
