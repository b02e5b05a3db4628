use Rattle.std.proofs.Common.{Option, ℕ, ap, ◌∙◌}
use Rattle.std.specs.Prelude.{is_some}
use Rattle.dir_conf.proofs.Taken.{type_is_there}
use Rattle.dir_conf.proofs.type_lines.is_type.Goals as goal

pub returns : goal.returns
returns c = c.is_some.ensures ∙ ap (λ (o : Option ℕ). is_some o) c.type_of.ensures.place ∙ type_is_there c.args.types.now c.args.name.now
