use Rattle.std.proofs.Common.{◌∙◌, arith, ap, sym}
use Rattle.std.specs.Prelude.{◌==◌}
use Rattle.std.specs.List.{list_any, slice_index}
use Rattle.std.proofs.lemmas.Bool.{eqb-true, false≢true}
use Rattle.command_line.proofs.Patterns.{decided, no_percent}
use Rattle.command_line.proofs.reading.is_faulty_pattern.Goals as goal

pub returns-else-not-starts_with : goal.returns-else-not-starts_with
returns-else-not-starts_with c =
    let cut = c.in-Some.ensures.byte (omega arith) (λ w o h. h) in
    let begins = c.starts_with.ensures.byte (omega arith) (omega arith) (λ w o h. h) in
    let letter = eqb-true _ 115 (sym begins ∙ c.if-not-starts_with.false) in
    let same = c.as_bytes.ensures.value ∙ cut.1 in
    decided c.args.text.now cut.2 (sym (ap (λ text. slice_index text 0) cut.1) ∙ letter) c.contains.result
    (sym (ap (list_any (λ byte. byte == 37)) same) ∙ sym c.contains.ensures.value)

pub returns-in-None : goal.returns-in-None
returns-in-None c =
    (λ yes. absurd (false≢true yes), λ faulty. absurd (no_percent c.args.text.now (c.in-None.ensures.byte (omega arith) (λ w o h. h)) faulty))
