use Rattle.std.proofs.Common.{arith, ◌≡◌, ℕ, List, [], ◌∷◌, ◌++◌, map, sym, ap, subst, ◌∙◌}
use Rattle.std.proofs.lemmas.Grind.{common_steps}
use Rattle.std.proofs.lemmas.List.{append-nil}
use Rattle.std.proofs.lemmas.Result.{err_from_is_err_and}
use Rattle.index_keys.specs.RankedKeys.{rows_text}
use Rattle.ldif.specs.Written.{SoFar}
use Rattle.databases.proofs.Pieces as pieces
use Rattle.databases.proofs.index_of_entries.write_rows.Goals as goal

pub loop-parts-preserved : goal.loop-parts-preserved
loop-parts-preserved g c =
    let text : List ℕ = c.loop-parts.text.items in
    let before = c.loop-parts.invariant in
    let whole : List ℕ = c.args.text.now.items ++ rows_text (map g.K.RankedKey.pair c.args.keys.now) in
    let rest : List ℕ = text ++ rows_text (map g.K.RankedKey.pair (c.in-Some.parts.0.now ∷ c.in-Some.parts.1.now)) in
    let cut : text ++ rows_text (map g.K.RankedKey.pair c.loop-parts.left.now) ≡ rest = ap (λ ks. text ++ rows_text (map g.K.RankedKey.pair ks)) c.in-Some.ensures.cases.0 in
    record {
      failures = c.in_ok-left.ensures.ok.written.failed ∙ before.failures;
      so_far = pieces.goes_on (g.W.Sink.written c.args.sink.now) (g.W.Sink.written c.loop-parts.sink) (g.W.Sink.written c.write_row.new.sink) whole rest
          (subst (SoFar (g.W.Sink.written c.args.sink.now) (g.W.Sink.written c.loop-parts.sink) whole) cut before.so_far)
          (c.write_row.new.text.items ++ rows_text (map g.K.RankedKey.pair c.in_ok-left.left.now)) c.in_ok-left.ensures.ok;
    }

pub returns-in_err-left : goal.returns-in_err-left
returns-in_err-left g c =
    let p = err_from_is_err_and c.from_residual.result c.from_residual.ensures.1 in
    let text : List ℕ = c.loop-parts.text.items in
    let before = c.loop-parts.invariant in
    let whole : List ℕ = c.args.text.now.items ++ rows_text (map g.K.RankedKey.pair c.args.keys.now) in
    let rest : List ℕ = text ++ rows_text (map g.K.RankedKey.pair (c.in-Some.parts.0.now ∷ c.in-Some.parts.1.now)) in
    let cut : text ++ rows_text (map g.K.RankedKey.pair c.loop-parts.left.now) ≡ rest = ap (λ ks. text ++ rows_text (map g.K.RankedKey.pair ks)) c.in-Some.ensures.cases.0 in
    rw (p.1, p.2) (pieces.stops (g.W.Sink.written c.args.sink.now) (g.W.Sink.written c.loop-parts.sink) (g.W.Sink.written c.write_row.new.sink) whole rest
    (subst (SoFar (g.W.Sink.written c.args.sink.now) (g.W.Sink.written c.loop-parts.sink) whole) cut before.so_far)
    c.in_err-left.field-0.0 rest [] (sym (append-nil rest)) c.in_err-left.ensures.err)

pub returns : goal.returns
returns g c = grind (arith, common_steps)
