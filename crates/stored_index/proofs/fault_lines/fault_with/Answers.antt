use Rattle.std.proofs.Common.{ℕ, List, Option, [], ◌++◌, take, refl, sym, ◌∙◌, subst, arith}
use Rattle.device.specs.Device.{Gave}
use Rattle.device.proofs.Pulls.{pulled_more, pulled_by}
use Rattle.stored_index.specs.FaultLines.{IsFaultLine, TellsLine}
use Rattle.stored_index.specs.inner.FaultLines.{Going, PieceTells}
use Rattle.stored_index.specs.declared.fault_lines.FaultLine.{FaultLine}
use Rattle.stored_index.specs.declared.given.Given.{Given}
use Rattle.stored_index.proofs.FaultGoing.{bad_for}
use Rattle.stored_index.proofs.FaultPulls.{none_gone, gave_some, as_each, as_end}
use Rattle.stored_index.proofs.fault_lines.fault_with.Goals as goal

pub pulls-init : goal.pulls-init
pulls-init g c =
    let conf = c.args.given.conf.now in
    let is = c.rules_are_kept.ensures in
    record {
      pulled =
          none_gone c.args.given (g.S.Source.seen c.args.source.now) c.new-draft.result c.new-held.result.items is
          (record { found = λ t known. c.printed_names_name_their_types.ensures.names conf t is known; plain = λ t known. c.printed_names_name_their_types.ensures.texts conf t is known })
          c.new-held.ensures.items c.new-draft.ensures.given c.new-draft.ensures.due c.new-draft.ensures.goes;
      failed = refl;
    }

pub pulls-preserved : goal.pulls-preserved
pulls-preserved g c =
    let i = c.pulls.invariant.pulled in
    let piece = take c.in_ok-n.n c.pull.new.buffer in
    let before = g.S.Source.seen c.args.source.now in
    let now = g.S.Source.seen c.pulls.source in
    let later = g.S.Source.seen c.pull.new.self in
    let told = subst (λ (o : Option FaultLine). PieceTells (i.gone ++ piece) c.pulls.draft c.fault_in_piece.new.draft c.fault_in_piece.new.held.items c.fault_in_piece.new.lines o) c.in_default.is (c.in_ok-fault.ensures i.gone i.going) in
    record {
      pulled = record { gone = i.gone ++ piece; taken = pulled_more before now later i.gone piece i.taken (pulled_by now later piece c.in_ok-n.ensures.gave); same = told.0 ∙ i.same; going = told.1 };
      failed = c.in_ok-n.ensures.gave.failed ∙ c.pulls.invariant.failed;
    }

pub returns-in-Some-clause-told : goal.returns-in-Some-clause-told
returns-in-Some-clause-told g c =
    let i = c.pulls.invariant.pulled in
    let given = c.args.given in
    let piece = take c.in_ok-n.n c.pull.new.buffer in
    let told = subst (λ (o : Option FaultLine). PieceTells (i.gone ++ piece) c.pulls.draft c.fault_in_piece.new.draft c.fault_in_piece.new.held.items c.fault_in_piece.new.lines o) c.in-Some.is (c.in_ok-fault.ensures i.gone i.going) in
    as_each (g.S.Source.seen c.args.source.now) (g.S.Source.seen c.pulls.source) (g.S.Source.seen c.pull.new.self) i.gone i.taken piece
    (λ text. IsFaultLine given.conf.now given.entries given.stamp.now text c.in-Some.fault) c.in_ok-n.ensures.gave
    (λ text. bad_for c.pulls.draft.given given i.same ((i.gone ++ piece) ++ text) c.in-Some.fault (told text))

pub returns-then-n-eq0-clause-told : goal.returns-then-n-eq0-clause-told
returns-then-n-eq0-clause-told g c =
    let i = c.pulls.invariant.pulled in
    let given = c.args.given in
    let told = c.in_ok-fault_at_end.ensures i.gone (subst (λ (held : List ℕ). Going i.gone c.pulls.draft held [] c.pulls.lines) (sym c.as_slice.ensures.value) i.going) in
    as_end (g.S.Source.seen c.args.source.now) (g.S.Source.seen c.pulls.source) (g.S.Source.seen c.pull.new.self) i.gone i.taken
    (λ text. TellsLine given.conf.now given.entries given.stamp.now text c.in_ok-fault_at_end.field-0)
    (subst (λ (n : ℕ). Gave (g.S.Source.seen c.pulls.source) (g.S.Source.seen c.pull.new.self) (take n c.pull.new.buffer)) c.if-n-eq0.true c.in_ok-n.ensures.gave)
    (c.in_ok-n.ensures.end c.if-n-eq0.true (omega arith)).1
    (subst (λ (of : Given). TellsLine of.conf.now of.entries of.stamp.now i.gone c.in_ok-fault_at_end.field-0) i.same told)

pub returns-in-Some-clause-gave : goal.returns-in-Some-clause-gave
returns-in-Some-clause-gave g c =
    let i = c.pulls.invariant.pulled in
    gave_some (g.S.Source.seen c.args.source.now) (g.S.Source.seen c.pulls.source) (g.S.Source.seen c.pull.new.self) i.gone i.taken (take c.in_ok-n.n c.pull.new.buffer) c.in_ok-n.ensures.gave

pub returns-in_err-fault-clause-gave : goal.returns-in_err-fault-clause-gave
returns-in_err-fault-clause-gave g c =
    let i = c.pulls.invariant.pulled in
    gave_some (g.S.Source.seen c.args.source.now) (g.S.Source.seen c.pulls.source) (g.S.Source.seen c.pull.new.self) i.gone i.taken (take c.in_ok-n.n c.pull.new.buffer) c.in_ok-n.ensures.gave

pub returns-then-n-eq0-clause-gave : goal.returns-then-n-eq0-clause-gave
returns-then-n-eq0-clause-gave g c =
    let i = c.pulls.invariant.pulled in
    gave_some (g.S.Source.seen c.args.source.now) (g.S.Source.seen c.pulls.source) (g.S.Source.seen c.pull.new.self) i.gone i.taken (take c.in_ok-n.n c.pull.new.buffer) c.in_ok-n.ensures.gave

pub returns-in_err-fault_at_end-clause-gave : goal.returns-in_err-fault_at_end-clause-gave
returns-in_err-fault_at_end-clause-gave g c =
    let i = c.pulls.invariant.pulled in
    gave_some (g.S.Source.seen c.args.source.now) (g.S.Source.seen c.pulls.source) (g.S.Source.seen c.pull.new.self) i.gone i.taken (take c.in_ok-n.n c.pull.new.buffer) c.in_ok-n.ensures.gave
