use Rattle.std.proofs.Common.{sym, ◌∙◌}
use Rattle.std.proofs.lemmas.Result.{err_from_is_err_and}
use Rattle.stored_index.proofs.KeyLemmas.{other, decoded, not_read}
use Rattle.stored_index.proofs.keys.read_bytes.Goals as goal

pub returns-then-not-are_hex_bytes : goal.returns-then-not-are_hex_bytes
returns-then-not-are_hex_bytes c = rw c.form.ensures (other c.args.word.now (sym c.are_hex_bytes.ensures ∙ c.if-not-are_hex_bytes.true))

pub returns-in_err-bytes : goal.returns-in_err-bytes
returns-in_err-bytes c =
    let p = err_from_is_err_and c.from_residual.result c.from_residual.ensures.1 in
    rw (p.1, p.2) (not_read c.args.word.now c.in_err-bytes.field-0.0 (sym c.are_hex_bytes.ensures ∙ c.if-not-are_hex_bytes.false) c.in_err-bytes.ensures.err)

pub returns : goal.returns
returns c = decoded c.args.word.now _ (sym c.are_hex_bytes.ensures ∙ c.if-not-are_hex_bytes.false) c.in_ok-bytes.ensures.ok
