use Rattle.std.proofs.Common.{sym, ap, ◌∙◌}
use Rattle.std.specs.Bool.{one_answer}
use Rattle.values.specs.Types.{type_of}
use Rattle.schema.specs.Subtypes.{is_subtype}
use Rattle.databases.proofs.SelectedTypes.{by_name}
use Rattle.databases.proofs.selection.asks_for.Goals as goal

pub returns-in-Some : goal.returns-in-Some
returns-in-Some c =
    by_name c.args.conf.now.types c.args.t c.args.word.now c.in-Some.above c.is_subtype.result (sym c.eq.ensures ∙ c.if-eq.false) (sym c.eq-2.ensures ∙ c.if-eq-2.false)
    (sym (c.in-Some.ensures.place ∙ ap (type_of c.args.conf.now.types) c.as_bytes.ensures.value))
    (one_answer c.is_subtype.result (is_subtype c.args.conf.now.types c.args.t c.in-Some.above) c.is_subtype.ensures (c.subtypes_are_told.ensures c.args.conf.now c.args.t c.in-Some.above c.rules_are_kept.ensures c.requires))
