use Rattle.std.proofs.Common.{arith, sym, ◌∙◌, ap, length, ◌<◌, List, ℕ}
use Rattle.ldif_lines.specs.inner.View.{state_of}
use Rattle.ldif_lines.proofs.DraftLemmas.{draft}
use Rattle.ldif_lines.proofs.StateLemmas.{state, put-comment, put-kept}
use Rattle.ldif_lines.proofs.draft.RecordDraft.put.Goals as goal

pub returns-then-self : goal.returns-then-self
returns-then-self c = λ after_return count e. sym (put-comment (state_of c.args.self.now after_return count) c.args.bytes.now c.if-not-self.false c.if-self.true)

pub returns : goal.returns
returns c = λ after_return count e.
    let m = c.args.self.now in
    let s = state_of m after_return count in
    let some : 0 < length s.draft.lines = omega (arith, m.kept c.if-not-self.false c.if-self.false) in
    ap (λ (ls : List (List ℕ)). state (draft s.draft.numbers s.draft.comment ls) s.first s.count s.inside s.after_return) c.in_ok-extend_last.ensures.put
    ∙ sym (put-kept s c.args.bytes.now c.if-not-self.false c.if-self.false some)
