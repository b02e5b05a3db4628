use Rattle.index.proofs.KeyForms.{take_tiny, take_short, take_long}
use Rattle.index.proofs.key_sets.KeySets.remove.Goals as goal

pub invariant_of-self : goal.invariant_of-self
invariant_of-self c = (take_tiny c.self.inside.tiny c.self.inside.short c.self.inside.long c.args.key.now c.args.number c.remove.result c.args.self.now c.self.view_is c.self.invariant c.remove.new.self _ c.in-Some.ensures.0 c.in-Some.ensures.1 c.remove.ensures).0

pub returns-in-Some : goal.returns-in-Some
returns-in-Some c = (take_tiny c.self.inside.tiny c.self.inside.short c.self.inside.long c.args.key.now c.args.number c.remove.result c.args.self.now c.self.view_is c.self.invariant c.remove.new.self _ c.in-Some.ensures.0 c.in-Some.ensures.1 c.remove.ensures).1

pub invariant_of-self-in-Some-of : goal.invariant_of-self-in-Some-of
invariant_of-self-in-Some-of c = (take_short c.self.inside.tiny c.self.inside.short c.self.inside.long c.args.key.now c.args.number c.remove-in-Some-of.result c.args.self.now c.self.view_is c.self.invariant c.remove-in-Some-of.new.self _ c.in-None.ensures c.in-Some-of.ensures.0 c.in-Some-of.ensures.1 c.remove-in-Some-of.ensures).0

pub returns-in-Some-of : goal.returns-in-Some-of
returns-in-Some-of c = (take_short c.self.inside.tiny c.self.inside.short c.self.inside.long c.args.key.now c.args.number c.remove-in-Some-of.result c.args.self.now c.self.view_is c.self.invariant c.remove-in-Some-of.new.self _ c.in-None.ensures c.in-Some-of.ensures.0 c.in-Some-of.ensures.1 c.remove-in-Some-of.ensures).1

pub invariant_of-self-in-None-of : goal.invariant_of-self-in-None-of
invariant_of-self-in-None-of c = (take_long c.self.inside.tiny c.self.inside.short c.self.inside.long c.args.key.now c.args.number c.remove-in-None-of.result c.args.self.now c.self.view_is c.self.invariant c.remove-in-None-of.new.self c.in-None.ensures c.in-None-of.ensures c.remove-in-None-of.ensures).0

pub returns-in-None-of : goal.returns-in-None-of
returns-in-None-of c = (take_long c.self.inside.tiny c.self.inside.short c.self.inside.long c.args.key.now c.args.number c.remove-in-None-of.result c.args.self.now c.self.view_is c.self.invariant c.remove-in-None-of.new.self c.in-None.ensures c.in-None-of.ensures c.remove-in-None-of.ensures).1
