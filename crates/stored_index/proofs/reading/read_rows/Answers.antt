use Rattle.std.proofs.Common.{ℕ, List, [], ◌++◌, take, refl, sym, ◌∙◌, subst, arith}
use Rattle.std.proofs.lemmas.Result.{err_from_is_err_and}
use Rattle.device.specs.Device.{Gave}
use Rattle.device.proofs.Pulls.{pulled_more, pulled_by}
use Rattle.base.specs.Answers.{Fails}
use Rattle.stored_index.specs.Gives.{fault_of}
use Rattle.stored_index.specs.Reading.{rows_in}
use Rattle.stored_index.specs.inner.Drafts.{Reading, Awaits, Comes}
use Rattle.stored_index.specs.inner.Faults.{index_fault}
use Rattle.stored_index.specs.declared.given.Given.{Given}
use Rattle.stored_index.proofs.TextLemmas.{some_text, handed_on, none_pulled, more_pulled, as_each, as_end}
use Rattle.stored_index.proofs.reading.read_rows.Goals as goal

pub pulls-init : goal.pulls-init
pulls-init g c = record {
  pulled = none_pulled c.args.given (g.S.Source.seen c.args.source.now) c.new-draft.result c.new-held.result.items c.new-held.ensures.items c.new-draft.ensures.given c.new-draft.ensures.goes;
  failed = refl;
}

pub returns-in_err-n-clause-err : goal.returns-in_err-n-clause-err
returns-in_err-n-clause-err g c =
    let p = err_from_is_err_and c.from_residual.result c.from_residual.ensures.1 in
    rw (p.1, p.2) (some_text (g.S.Source.seen c.args.source.now).left _ (λ text. tt))

pub returns-in_err-finish-clause-err : goal.returns-in_err-finish-clause-err
returns-in_err-finish-clause-err g c =
    let i = c.pulls.invariant.pulled in
    let given = c.args.given in
    let W : List ℕ → Reading = λ text. rows_in given.conf.now given.entries given.stamp.now (i.gone ++ text) in
    let e = c.in_err-finish.field-0.0 in
    let p = err_from_is_err_and c.from_residual-in_err-finish.result c.from_residual-in_err-finish.ensures.1 in
    rw (p.1, p.2)
    (as_end given (g.S.Source.seen c.args.source.now) (g.S.Source.seen c.pulls.source) (g.S.Source.seen c.pull.new.self) c.pulls.draft c.pulls.held.items i
    (λ (said : Reading). Fails (fault_of (index_fault e)) said)
    (subst (λ (n : ℕ). Gave (g.S.Source.seen c.pulls.source) (g.S.Source.seen c.pull.new.self) (take n c.pull.new.buffer)) c.if-n-eq0.true c.in_ok-n.ensures.gave)
    (c.in_ok-n.ensures.end c.if-n-eq0.true (omega arith)).1
    (handed_on e (W []) (c.in_err-finish.ensures.err W (subst (λ (held : List ℕ). Awaits W c.pulls.draft held []) (sym c.as_slice.ensures.value) i.awaits))))

pub returns-then-n-eq0-clause-ok : goal.returns-then-n-eq0-clause-ok
returns-then-n-eq0-clause-ok g c =
    let i = c.pulls.invariant.pulled in
    let given = c.args.given in
    let W : List ℕ → Reading = λ text. rows_in given.conf.now given.entries given.stamp.now (i.gone ++ text) in
    as_end given (g.S.Source.seen c.args.source.now) (g.S.Source.seen c.pulls.source) (g.S.Source.seen c.pull.new.self) c.pulls.draft c.pulls.held.items i
    (λ (said : Reading). Comes given.asked.now c.in_ok-finish.field-0 said)
    (subst (λ (n : ℕ). Gave (g.S.Source.seen c.pulls.source) (g.S.Source.seen c.pull.new.self) (take n c.pull.new.buffer)) c.if-n-eq0.true c.in_ok-n.ensures.gave)
    (c.in_ok-n.ensures.end c.if-n-eq0.true (omega arith)).1
    (subst (λ (of : Given). Comes of.asked.now c.in_ok-finish.field-0 (W [])) i.same
    (c.in_ok-finish.ensures.ok W (subst (λ (held : List ℕ). Awaits W c.pulls.draft held []) (sym c.as_slice.ensures.value) i.awaits)))

pub pulls-preserved : goal.pulls-preserved
pulls-preserved g c = record {
  pulled =
      more_pulled c.args.given (g.S.Source.seen c.args.source.now) (g.S.Source.seen c.pulls.source) (g.S.Source.seen c.pull.new.self) c.pulls.draft c.pulls.held.items
      c.pulls.invariant.pulled (take c.in_ok-n.n c.pull.new.buffer) c.take_piece.new.draft c.take_piece.new.held.items c.in_ok-n.ensures.gave c.in_ok-take_piece.ensures.ok;
  failed = c.in_ok-n.ensures.gave.failed ∙ c.pulls.invariant.failed;
}

pub returns-in_err-take_piece-clause-err : goal.returns-in_err-take_piece-clause-err
returns-in_err-take_piece-clause-err g c =
    let i = c.pulls.invariant.pulled in
    let given = c.args.given in
    let W : List ℕ → Reading = λ text. rows_in given.conf.now given.entries given.stamp.now (i.gone ++ text) in
    let piece = take c.in_ok-n.n c.pull.new.buffer in
    let e = c.in_err-take_piece.field-0.0 in
    let p = err_from_is_err_and c.from_residual-in_err-take_piece.result c.from_residual-in_err-take_piece.ensures.1 in
    rw (p.1, p.2)
    (as_each given (g.S.Source.seen c.args.source.now) (g.S.Source.seen c.pulls.source) (g.S.Source.seen c.pull.new.self) c.pulls.draft c.pulls.held.items i piece
    (λ (said : Reading). Fails (fault_of (index_fault e)) said) c.in_ok-n.ensures.gave
    (λ text. handed_on e (W (piece ++ text)) (c.in_err-take_piece.ensures.err W i.awaits text)))

pub returns-in_err-take_piece-clause-gave : goal.returns-in_err-take_piece-clause-gave
returns-in_err-take_piece-clause-gave g c =
    let i = c.pulls.invariant.pulled in
    let piece = take c.in_ok-n.n c.pull.new.buffer in
    let before = g.S.Source.seen c.args.source.now in
    let now = g.S.Source.seen c.pulls.source in
    let later = g.S.Source.seen c.pull.new.self in
    record { bytes = i.gone ++ piece; are = pulled_more before now later i.gone piece i.taken (pulled_by now later piece c.in_ok-n.ensures.gave) }
