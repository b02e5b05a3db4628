use Rattle.std.proofs.Common.{◌≡◌, ◌∙◌, ◌+◌, ◌<◌, ◌-◌, ◌^◌, ℕ, true, false, refl, sym, subst, arith}
use Rattle.std.proofs.lemmas.Result.{err_from_is_err_and}
use Rattle.commands.specs.Lists.{lines, Common, EndsLine, StopsInLine, RunsLines, StopsInLines}
use Rattle.commands.specs.Statuses.{goes_on}
use Rattle.commands.specs.Worlds.{reported_world}
use Rattle.commands.specs.inner.Lists.{common_of}
use Rattle.commands.specs.inner.Stopped.{HasStopped}
use Rattle.commands.specs.declared.messages.Status.{Status}
use Rattle.commands.proofs.Listed.{same_common, kept_itself, kept_on, frame_on, goes_on_true, runs_on, runs_out, stops_later, stops_here, no_line_left}
use Rattle.commands.proofs.ListEnds.{stopped_behind}
use Rattle.commands.proofs.listing.ListSearch.search_lines.Goals as goal

pub lines-init : goal.lines-init
lines-init g c = record {
  frame = c.requires.frame;
  kept = kept_itself _;
  out = c.requires.out;
  err = c.requires.err;
  room = omega arith;
  runs = λ said serves w w' s runs. runs;
  stops = λ said serves w at stops. stops;
}

pub lines-preserved : goal.lines-preserved
lines-preserved g c =
    let inv = c.lines.invariant in
    let asked = c.args.self.now.asked.now in
    let t = c.args.self.now.database.now in
    let line = c.in-Some.parts.0.now in
    let behind = c.in-Some.parts.1.now in
    let ended = c.in_ok-ended.ended in
    let on : goes_on asked.go_on ended ≡ true = sym c.goes_on.ensures ∙ c.if-not-goes_on.false in
    record {
      frame = frame_on asked t c.lines.query c.search_line.new.query inv.frame c.in_ok-ended.ensures.kept;
      kept = kept_on c.args.query.now c.lines.query c.search_line.new.query inv.kept c.in_ok-ended.ensures.kept;
      out = subst (λ (n : ℕ). n < 2 ^ 64 - 1) (sym c.in_ok-ended.ensures.can_fail.output) inv.out;
      err = subst (λ (n : ℕ). n < 2 ^ 64 - 1) (sym (c.in_ok-ended.ensures.can_fail.messages (goes_on_true asked.go_on ended on))) inv.err;
      room = omega (arith, inv.room, c.in-Some.ensures.shorter);
      runs = λ said serves w w' s runs.
          let shared = common_of said t c.args.query.now in
          let ends = subst (λ (k : Common). EndsLine asked k c.lines.number line (reported_world w g.O.Sink.written g.E.Sink.written c.lines.out c.lines.err) (reported_world w g.O.Sink.written g.E.Sink.written c.search_line.new.out c.search_line.new.err) ended)
          (same_common said t c.args.query.now c.lines.query inv.kept) (c.in_ok-ended.ensures.ends said serves w) in
          inv.runs said serves w w' s
          (runs_on asked shared c.lines.number line (lines behind) (lines c.lines.rest.now) c.in-Some.ensures.line _ _ c.lines.status ended ends on w' s
          (subst (λ (so_far : Status). RunsLines asked shared (c.lines.number + 1) so_far (lines behind) (reported_world w g.O.Sink.written g.E.Sink.written c.search_line.new.out c.search_line.new.err) w' s) c.worse-status.ensures runs));
      stops = λ said serves w at stops.
          let shared = common_of said t c.args.query.now in
          let ends = subst (λ (k : Common). EndsLine asked k c.lines.number line (reported_world w g.O.Sink.written g.E.Sink.written c.lines.out c.lines.err) (reported_world w g.O.Sink.written g.E.Sink.written c.search_line.new.out c.search_line.new.err) ended)
          (same_common said t c.args.query.now c.lines.query inv.kept) (c.in_ok-ended.ensures.ends said serves w) in
          inv.stops said serves w at
          (stops_later asked shared c.lines.number line (lines behind) (lines c.lines.rest.now) c.in-Some.ensures.line _ _ c.lines.status ended ends on at stops);
    }

pub returns-in_err-ended-clause-ends : goal.returns-in_err-ended-clause-ends
returns-in_err-ended-clause-ends g c =
    let inv = c.lines.invariant in
    let asked = c.args.self.now.asked.now in
    let t = c.args.self.now.database.now in
    let line = c.in-Some.parts.0.now in
    let p = err_from_is_err_and c.from_residual.result c.from_residual.ensures.1 in
    rw (p.1, p.2) (λ said serves w.
    let shared = common_of said t c.args.query.now in
    let stops = subst (λ (k : Common). HasStopped (StopsInLine asked k line) (reported_world w g.O.Sink.written g.E.Sink.written c.lines.out c.lines.err) (reported_world w g.O.Sink.written g.E.Sink.written c.search_line.new.out c.search_line.new.err) c.in_err-ended.field-0.0)
    (same_common said t c.args.query.now c.lines.query inv.kept) (c.in_err-ended.ensures.ends said serves w) in
    stopped_behind (StopsInLine asked shared line) (StopsInLines asked shared 1 (lines c.args.text.now)) _ _ _ refl
    (λ at here. inv.stops said serves w at (stops_here asked shared c.lines.number line (lines c.in-Some.parts.1.now) (lines c.lines.rest.now) c.in-Some.ensures.line _ at here)) _ stops)

pub returns-then-not-goes_on-clause-ends : goal.returns-then-not-goes_on-clause-ends
returns-then-not-goes_on-clause-ends g c = λ said serves w.
    let inv = c.lines.invariant in
    let asked = c.args.self.now.asked.now in
    let t = c.args.self.now.database.now in
    let line = c.in-Some.parts.0.now in
    let ended = c.in_ok-ended.ended in
    let shared = common_of said t c.args.query.now in
    let off : goes_on asked.go_on ended ≡ false = sym c.goes_on.ensures ∙ c.if-not-goes_on.true in
    let ends = subst (λ (k : Common). EndsLine asked k c.lines.number line (reported_world w g.O.Sink.written g.E.Sink.written c.lines.out c.lines.err) (reported_world w g.O.Sink.written g.E.Sink.written c.search_line.new.out c.search_line.new.err) ended)
    (same_common said t c.args.query.now c.lines.query inv.kept) (c.in_ok-ended.ensures.ends said serves w) in
    inv.runs said serves w _ _
    (subst (λ (s : Status). RunsLines asked shared c.lines.number c.lines.status (lines c.lines.rest.now) (reported_world w g.O.Sink.written g.E.Sink.written c.lines.out c.lines.err) (reported_world w g.O.Sink.written g.E.Sink.written c.search_line.new.out c.search_line.new.err) s) (sym c.worse-status.ensures)
    (runs_out asked shared c.lines.number line (lines c.in-Some.parts.1.now) (lines c.lines.rest.now) c.in-Some.ensures.line _ _ c.lines.status ended ends off))

pub returns-clause-ends : goal.returns-clause-ends
returns-clause-ends g c = λ said serves w.
    let shared = common_of said c.args.self.now.database.now c.args.query.now in
    c.lines.invariant.runs said serves w _ _ (no_line_left c.args.self.now.asked.now shared c.lines.number c.lines.status (lines c.lines.rest.now) c.in_default.ensures.line _)
