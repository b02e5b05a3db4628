use Rattle.std.proofs.Common.{List, ℕ, [], ◌++◌, refl, sym, ◌∙◌, subst}
use Rattle.std.proofs.lemmas.Result.{err_from_is_err_and}
use Rattle.stored_index.specs.inner.Drafts.{Awaits}
use Rattle.stored_index.proofs.TextLemmas.{behind_line, fails_at_line, all_held}
use Rattle.stored_index.proofs.reading.take_piece.Goals as goal

pub loop-line-init : goal.loop-line-init
loop-line-init c = (refl, λ W awaits. record { w = awaits.w; goes = awaits.goes; none = awaits.none; same = λ text. awaits.same (c.args.piece.now ++ text) })

pub returns-in_err-take_line-clause-err : goal.returns-in_err-take_line-clause-err
returns-in_err-take_line-clause-err c =
    let p = err_from_is_err_and c.from_residual.result c.from_residual.ensures.1 in
    rw (p.1, p.2) (λ W awaits text.
    fails_at_line (λ text. W (c.args.piece.now ++ text)) c.loop-line.draft c.loop-line.held.items c.loop-line.rest.now (c.loop-line.invariant.1 W awaits)
    c.in-Some.line.now c.in-Some.next.now c.in-Some.ensures.cut c.in_err-take_line.field-0.0 c.in_err-take_line.ensures.err text)

pub loop-line-preserved : goal.loop-line-preserved
loop-line-preserved c = (
  c.in_ok-take_line.ensures.ok.given ∙ c.loop-line.invariant.0,
  λ W awaits.
      subst (λ (held : List ℕ). Awaits (λ text. W (c.args.piece.now ++ text)) c.take_line.new.draft held c.in-Some.next.now) (sym c.in_ok-take_line.ensures.held)
      (behind_line (λ text. W (c.args.piece.now ++ text)) c.loop-line.draft c.loop-line.held.items c.loop-line.rest.now (c.loop-line.invariant.1 W awaits)
      c.in-Some.line.now c.in-Some.next.now c.in-Some.ensures.cut c.take_line.new.draft c.in_ok-take_line.ensures.ok),
)

pub returns-clause-ok : goal.returns-clause-ok
returns-clause-ok c = record {
  given = c.loop-line.invariant.0;
  awaits = λ W awaits.
      subst (λ (held : List ℕ). Awaits (λ text. W (c.args.piece.now ++ text)) c.loop-line.draft held []) (sym c.in_ok-extend_from_slice.ensures.items)
      (all_held (λ text. W (c.args.piece.now ++ text)) c.loop-line.draft c.loop-line.held.items c.loop-line.rest.now (c.loop-line.invariant.1 W awaits) c.in_default.ensures.cut);
}
