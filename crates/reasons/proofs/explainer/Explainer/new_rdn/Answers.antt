use Rattle.reasons.proofs.RenameFound.{spells_it}
use Rattle.reasons.proofs.explainer.Explainer.new_rdn.Goals as goal

pub returns-in-Ok : goal.returns-in-Ok
returns-in-Ok c = (c.in-Ok.ensures.gives, spells_it c.args.self.now.conf.now c.args.text.now c.in-Ok.rdn c.in-Ok.ensures.gives, c.in-Ok.ensures.good)
