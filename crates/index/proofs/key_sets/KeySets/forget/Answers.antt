use Rattle.index.proofs.KeyForms.{all_forget, own_after}
use Rattle.index.proofs.key_sets.KeySets.forget.Goals as goal

pub invariant_of-self : goal.invariant_of-self
invariant_of-self c = own_after c.self.inside.tiny c.self.inside.short c.self.inside.long c.args.number c.forget.new.self c.forget-2.new.self c.forget-3.new.self c.forget.ensures c.forget-2.ensures c.forget-3.ensures c.self.invariant

pub returns : goal.returns
returns c = all_forget c.self.inside.tiny c.self.inside.short c.self.inside.long c.args.number c.forget.new.self c.forget-2.new.self c.forget-3.new.self c.forget.ensures c.forget-2.ensures c.forget-3.ensures c.args.self.now c.self.view_is
