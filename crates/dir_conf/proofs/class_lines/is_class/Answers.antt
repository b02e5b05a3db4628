use Rattle.std.proofs.Common.{Option, ℕ, ap, ◌∙◌}
use Rattle.std.specs.Prelude.{is_some}
use Rattle.schema.proofs.ClassesFound.{class_is_there}
use Rattle.dir_conf.proofs.class_lines.is_class.Goals as goal

pub returns : goal.returns
returns c = c.is_some.ensures ∙ ap (λ (o : Option ℕ). is_some o) c.class_of.ensures.place ∙ class_is_there c.args.classes.now c.args.name.now
