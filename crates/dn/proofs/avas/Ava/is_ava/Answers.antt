use Rattle.std.proofs.Common.{ap, sym, ◌∙◌}
use Rattle.std.specs.List.{list_all}
use Rattle.dn.specs.Names.{is_type, is_byte}
use Rattle.dn.proofs.Holding.{type_suffices}
use Rattle.dn.proofs.avas.Ava.is_ava.Goals as goal

pub returns : goal.returns
returns c =
    type_suffices c.args.self.now c.is_type.result (c.is_type.ensures ∙ ap is_type c.type_text.ensures) (sym (ap (list_all is_byte) c.value.ensures) ∙ c.in_range.ensures.in_range)
