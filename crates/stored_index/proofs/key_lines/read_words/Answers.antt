use Rattle.std.proofs.Common.{Bool, ◌∷◌, is_lt, sym, ap, ◌∙◌}
use Rattle.std.proofs.lemmas.Result.{err_from_is_err_and}
use Rattle.base.specs.Ascii.{space}
use Rattle.base.proofs.Each.{passed_on}
use Rattle.stored_index.specs.Cuts.{parts}
use Rattle.stored_index.specs.Gives.{kind_of}
use Rattle.stored_index.specs.KeyLines.{ranks_in, row_of}
use Rattle.stored_index.specs.Stored.{kept_row}
use Rattle.stored_index.specs.inner.Asked.{has_text}
use Rattle.stored_index.specs.inner.Kept.{kept_if}
use Rattle.stored_index.specs.declared.fault.IndexFaultKind.TheVariants.{Form}
use Rattle.stored_index.proofs.RowLemmas.{key_fails, ranks_fail, row_read}
use Rattle.stored_index.proofs.KeyLaws.{key_writes}
use Rattle.stored_index.proofs.KeyLineLemmas.{no_key, a_key, in_order, kept_is}
use Rattle.stored_index.proofs.key_lines.read_words.Goals as goal

pub returns-then-not-is_key : goal.returns-then-not-is_key
returns-then-not-is_key c = λ before last.
    rw c.form.ensures (key_fails before c.args.given.entries c.args.word.now c.args.words.now Form (no_key c.args.word.now (sym c.is_key.ensures ∙ c.if-not-is_key.true)))

pub returns-in_err-ranks : goal.returns-in_err-ranks
returns-in_err-ranks c = λ before last.
    let words = parts space c.args.words.now in
    let key = a_key c.args.word.now (sym c.is_key.ensures ∙ c.if-not-is_key.false) in
    let above = c.is_lt-is_in_order.ensures ∙ ap is_lt c.cmp.ensures ∙ in_order before c.args.last_word.now c.args.word.now key.0 last key.1 in
    let p = err_from_is_err_and c.from_residual.result c.from_residual.ensures.1 in
    rw (p.1, p.2)
    (passed_on (kind_of c.in_err-ranks.field-0.0) (ranks_in c.is_lt-is_in_order.result c.args.given.entries words) (row_of before c.args.given.entries (c.args.word.now ∷ words))
    (λ fault e. ranks_fail before c.args.given.entries c.args.word.now c.args.words.now key.0 fault key.1 (sym (ap (λ (a : Bool). ranks_in a c.args.given.entries words) above) ∙ e)) c.in_err-ranks.ensures)

pub returns : goal.returns
returns c = λ before last.
    let words = parts space c.args.words.now in
    let key = a_key c.args.word.now (sym c.is_key.ensures ∙ c.if-not-is_key.false) in
    let written = key_writes c.args.word.now key.0 key.1 in
    let above = c.is_lt-is_in_order.ensures ∙ ap is_lt c.cmp.ensures ∙ in_order before c.args.last_word.now c.args.word.now key.0 last key.1 in
    let ranks = c.in_ok-ranks.ensures in
    let asked = c.has-is_asked.ensures ∙ ap (has_text c.args.given.asked.now) written.0 in (
      (key.0, ranks.0),
      row_read before c.args.given.entries c.args.word.now c.args.words.now key.0 ranks.0 key.1 (sym (ap (λ (a : Bool). ranks_in a c.args.given.entries words) above) ∙ ranks.1),
      record {
        word = written.0;
        bytes = written.1;
        kept =
            c.in_ok-row.ensures.ok key.0 key.1 ∙ kept_is c.has-is_asked.result key.0 ranks.0 c.in_ok-ranks.ranks ranks.2
            ∙ ap (λ (b : Bool). kept_if b (kept_row (key.0, ranks.0))) asked;
      },
    )
