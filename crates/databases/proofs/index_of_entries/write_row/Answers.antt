use Rattle.std.proofs.Common.{◌≡◌, ℕ, List, ◌∷◌, ◌++◌, map, sym, ap, ◌∙◌, append_assoc}
use Rattle.std.proofs.lemmas.Result.{err_from_is_err_and}
use Rattle.index_keys.specs.RankedKeys.{rows_text}
use Rattle.databases.proofs.Pieces.{want_at_once}
use Rattle.databases.proofs.WrittenLines.{longer, stopped_early}
use Rattle.databases.proofs.index_of_entries.write_row.Goals as goal

-- the line of the first row is put behind a text, and the other rows are to come
in_parts : (text out line rows rest : List ℕ) → out ≡ text ++ line → rows ≡ line ++ rest → text ++ rows ≡ out ++ rest
in_parts text out line rows rest put cut = ap (λ (bs : List ℕ). text ++ bs) cut ∙ sym (append_assoc text line rest) ∙ ap (λ (bs : List ℕ). bs ++ rest) (sym put)

pub returns-in_err-rest-clause-err : goal.returns-in_err-rest-clause-err
returns-in_err-rest-clause-err g c =
    let p = err_from_is_err_and c.from_residual.result c.from_residual.ensures.1 in
    rw (p.1, p.2) (want_at_once (g.W.Sink.written c.args.sink.now) (c.args.text.now.items ++ rows_text (map g.K.RankedKey.pair (c.args.first.now ∷ c.args.others.now))))

pub returns-in_err-pass_on_long-clause-err : goal.returns-in_err-pass_on_long-clause-err
returns-in_err-pass_on_long-clause-err g c =
    let p = err_from_is_err_and c.from_residual-in_err-pass_on_long.result c.from_residual-in_err-pass_on_long.ensures.1 in
    let rows : List ℕ = rows_text (map g.K.RankedKey.pair (c.args.first.now ∷ c.args.others.now)) in
    let rest : List ℕ = rows_text (map g.K.RankedKey.pair c.in_ok-rest.rest.now) in
    let text : List ℕ = c.args.text.now.items in
    let put = c.in_ok-rest.ensures.text in
    rw (p.1, p.2) (stopped_early (g.W.Sink.written c.args.sink.now) (g.W.Sink.written c.pass_on_long.new.sink) c.put_row.new.out.items rest (text ++ rows) (in_parts text c.put_row.new.out.items put.0 rows rest put.1 put.2) c.in_err-pass_on_long.field-0.0 c.in_err-pass_on_long.ensures.writes)

pub returns-clause-ok : goal.returns-clause-ok
returns-clause-ok g c =
    let rows : List ℕ = rows_text (map g.K.RankedKey.pair (c.args.first.now ∷ c.args.others.now)) in
    let rest : List ℕ = rows_text (map g.K.RankedKey.pair c.in_ok-rest.rest.now) in
    let text : List ℕ = c.args.text.now.items in
    let put = c.in_ok-rest.ensures.text in
    longer (g.W.Sink.written c.args.sink.now) (g.W.Sink.written c.pass_on_long.new.sink) c.put_row.new.out.items c.pass_on_long.new.text.items rest (text ++ rows)
    (in_parts text c.put_row.new.out.items put.0 rows rest put.1 put.2) c.in_ok-pass_on_long.ensures.writes

pub returns-clause-fewer : goal.returns-clause-fewer
returns-clause-fewer g c = c.in_ok-rest.ensures.fewer
