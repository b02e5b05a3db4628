use Rattle.std.proofs.Common.{subst, ◌≡◌, ◌+◌, ◌-◌, ◌≤◌, true, false, take, drop, arith}
use Rattle.std.proofs.lemmas.List.{length-take}
use Rattle.ldif_lines.specs.inner.View.{state_of}
use Rattle.ldif_lines.specs.inner.States.{next_state, raw_of}
use Rattle.ldif_lines.specs.inner.Moves.{Moved, Ended}
use Rattle.ldif_lines.specs.declared.draft.RecordDraft.{RecordDraft}
use Rattle.ldif_lines.proofs.MoveLemmas.{rest_cut, moved-taken, ended-taken}
use Rattle.ldif_lines.proofs.reader.Reader+S.advance.Goals as goal

pub returns-clause-moved : goal.returns-clause-moved
returns-clause-moved g c = λ h.
    let r = c.args.self.now in
    let t = c.in_ok-taken.taken in
    let off : t.ended ≡ false = cc in
    let fits : r.at + t.len ≤ r.end = omega (arith, c.in_ok-taken.ensures.within, length-take (r.end - r.at) (drop r.at r.piece)) in
    subst (λ (m : RecordDraft). Moved (g.S.Source.seen r.source.now) (g.S.Source.seen r.source.now) (take (r.end - r.at) (drop r.at r.piece)) (take (r.end - (r.at + t.len)) (drop (r.at + t.len) r.piece)) (state_of m r.after_return r.count) (state_of c.take_lines-taken.new.draft t.after_return t.count)) c.replace-draft.ensures.value
    (moved-taken (g.S.Source.seen r.source.now) t.len _ _ _ _ (rest_cut r.piece r.at r.end t.len fits) (c.in_ok-taken.ensures.moved off))

pub returns-clause-ended : goal.returns-clause-ended
returns-clause-ended g c = λ h.
    let r = c.args.self.now in
    let t = c.in_ok-taken.taken in
    let on : t.ended ≡ true = cc in
    let fits : r.at + t.len ≤ r.end = omega (arith, c.in_ok-taken.ensures.within, length-take (r.end - r.at) (drop r.at r.piece)) in
    subst (λ (m : RecordDraft). Ended (g.S.Source.seen r.source.now) (g.S.Source.seen r.source.now) (take (r.end - r.at) (drop r.at r.piece)) (take (r.end - (r.at + t.len)) (drop (r.at + t.len) r.piece)) (state_of m r.after_return r.count) (next_state t.count) (raw_of (state_of c.take_lines-taken.new.draft t.after_return t.count))) c.replace-draft.ensures.value
    (ended-taken (g.S.Source.seen r.source.now) t.len _ _ _ _ _ (rest_cut r.piece r.at r.end t.len fits) (c.in_ok-taken.ensures.ended on))
