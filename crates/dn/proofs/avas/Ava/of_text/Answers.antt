use Rattle.dn.proofs.Holding.{held, held_is_ava}
use Rattle.dn.proofs.avas.Ava.of_text.Goals as goal

pub returns-clause-same : goal.returns-clause-same
returns-clause-same c = held c.args.text c.args.type_text.now c.args.value.now c.requires.type_text c.requires.text

pub returns-clause-good : goal.returns-clause-good
returns-clause-good c = held_is_ava c.args.text c.args.type_text.now c.args.value.now c.requires.type_text c.requires.text c.in_range.ensures.in_range
