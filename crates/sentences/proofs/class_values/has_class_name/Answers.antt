use Rattle.std.proofs.Common.{◌≡◌, true, false, ap, sym, ◌∙◌, arith}
use Rattle.std.specs.Str.{str_eq_ignore_ascii_case}
use Rattle.sentences.proofs.Firsts.{any_at, any_behind}
use Rattle.sentences.proofs.class_values.has_class_name.Goals as goal

pub returns-then-is_class_name : goal.returns-then-is_class_name
returns-then-is_class_name c =
    let passes : str_eq_ignore_ascii_case c.value-item.result c.args.name.now ≡ true =
    ap (λ w. str_eq_ignore_ascii_case w c.args.name.now) (sym c.as_slice.ensures) ∙ sym c.is_class_name.ensures ∙ c.if-is_class_name.true in
    any_at (λ w. str_eq_ignore_ascii_case w c.args.name.now) c.args.values.now c.loop-value.value-index c.value-item.result (omega arith) c.value-item.is
    passes c.loop-value.invariant

pub loop-value-preserved : goal.loop-value-preserved
loop-value-preserved c =
    let fails : str_eq_ignore_ascii_case c.value-item.result c.args.name.now ≡ false =
    ap (λ w. str_eq_ignore_ascii_case w c.args.name.now) (sym c.as_slice.ensures) ∙ sym c.is_class_name.ensures ∙ c.if-is_class_name.false in
    any_behind (λ w. str_eq_ignore_ascii_case w c.args.name.now) c.args.values.now c.loop-value.value-index c.value-item.result (omega arith) c.value-item.is
    fails c.loop-value.invariant
