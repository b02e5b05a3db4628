use Rattle.std.specs.Prelude.{Ok, Err}
use Rattle.std.proofs.lemmas.Result.{err_from_is_err_and}
use Rattle.databases.proofs.FoundText.{begun_behind, fails_behind}
use Rattle.databases.proofs.Pieces as pieces
use Rattle.databases.proofs.found.write_all_found.Goals as goal

pub returns-in_err-text : goal.returns-in_err-text
returns-in_err-text g c =
    let p = err_from_is_err_and c.from_residual.result c.from_residual.ensures.1 in
    rw (p.1, p.2) (pieces.want_at_once _ _)

pub returns-in_err-past : goal.returns-in_err-past
returns-in_err-past g c =
    let p = err_from_is_err_and c.from_residual-in_err-past.result c.from_residual-in_err-past.ensures.1 in
    rw (p.1, p.2) (fails_behind _ _ _ c.in_ok-text.text.items _ _ c.in_ok-text.ensures.items c.in_err-past.ensures)

pub returns-in_err-pass_on : goal.returns-in_err-pass_on
returns-in_err-pass_on g c =
    let p = err_from_is_err_and c.from_residual-in_err-pass_on.result c.from_residual-in_err-pass_on.ensures.1 in
    rw (p.1, p.2) (pieces.ends (g.W.Sink.written c.args.sink.now) (g.W.Sink.written c.put_found.new.sink) _ _ _
    (begun_behind _ _ c.in_ok-text.text.items _ _ _ c.in_ok-text.ensures.items c.in_ok-past.ensures.so_far) (Err c.in_err-pass_on.field-0.0) c.in_err-pass_on.ensures.writes)

pub returns : goal.returns
returns g c =
    record {
      past_is = c.in_ok-past.ensures.past_is;
      written = pieces.ends (g.W.Sink.written c.args.sink.now) (g.W.Sink.written c.put_found.new.sink) _ _ _
          (begun_behind _ _ c.in_ok-text.text.items _ _ _ c.in_ok-text.ensures.items c.in_ok-past.ensures.so_far) (Ok c.in_ok-pass_on.field-0) c.in_ok-pass_on.ensures.writes;
    }
