use Rattle.std.proofs.Common.{refl, ◌≡◌, ◌<◌, [], arith, sym, ◌∙◌, ap, length, true, false}
use Rattle.std.proofs.lemmas.Bool.Decides.{nat_tests}
use Rattle.ldif_lines.specs.inner.View.{state_of}
use Rattle.ldif_lines.specs.inner.States.{State, gives}
use Rattle.ldif_lines.proofs.DraftLemmas.{draft}
use Rattle.ldif_lines.proofs.StateLemmas.{state, gives-settle_end, over-none, over-some}
use Rattle.ldif_lines.proofs.draft.RecordDraft.finish.Goals as goal

pub returns-then-is_empty-clause-none : goal.returns-then-is_empty-clause-none
returns-then-is_empty-clause-none c = λ h count e.
    let s = state_of c.args.self.now c.args.after_return count in
    let m = c.settle.new.self in
    let t = state_of m false count in
    let after = c.in_ok-settle.ensures count e in
    let none : length t.draft.lines ≡ 0 = grind (arith, nat_tests) in
    let kept : m.in_line ≡ true → m.in_comment ≡ false → 0 < length t.draft.lines = λ i j. omega (arith, m.kept i j) in (
      gives-settle_end s ∙ ap (λ (u : State). gives false u []) (sym after) ∙ over-none t refl kept none,
      over-none (state (draft t.draft.numbers false t.draft.lines) t.first count false false) refl (λ i. absurd (cc)) none,
    )

pub returns-clause-some : goal.returns-clause-some
returns-clause-some c = λ h count e.
    let s = state_of c.args.self.now c.args.after_return count in
    let m = c.settle.new.self in
    let t = state_of m false count in
    let after = c.in_ok-settle.ensures count e in
    let some : 0 < length t.draft.lines = grind (arith, nat_tests) in
    let kept : m.in_line ≡ true → m.in_comment ≡ false → 0 < length t.draft.lines = λ i j. omega (arith, m.kept i j) in
    gives-settle_end s ∙ ap (λ (u : State). gives false u []) (sym after) ∙ over-some t refl kept some
