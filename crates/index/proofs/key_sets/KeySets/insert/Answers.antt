use Rattle.index.proofs.KeyForms.{put_tiny, put_short, put_long}
use Rattle.index.proofs.key_sets.KeySets.insert.Goals as goal

pub invariant_of-self : goal.invariant_of-self
invariant_of-self c = (put_tiny c.self.inside.tiny c.self.inside.short c.self.inside.long c.args.key.now c.args.number c.insert.result c.args.self.now c.self.view_is c.self.invariant c.insert.new.self _ c.in-Some.ensures.0 c.in-Some.ensures.1 c.insert.ensures).0

pub returns-in-Some : goal.returns-in-Some
returns-in-Some c = (put_tiny c.self.inside.tiny c.self.inside.short c.self.inside.long c.args.key.now c.args.number c.insert.result c.args.self.now c.self.view_is c.self.invariant c.insert.new.self _ c.in-Some.ensures.0 c.in-Some.ensures.1 c.insert.ensures).1

pub invariant_of-self-in-Some-of : goal.invariant_of-self-in-Some-of
invariant_of-self-in-Some-of c = (put_short c.self.inside.tiny c.self.inside.short c.self.inside.long c.args.key.now c.args.number c.insert-in-Some-of.result c.args.self.now c.self.view_is c.self.invariant c.insert-in-Some-of.new.self _ c.in-None.ensures c.in-Some-of.ensures.0 c.in-Some-of.ensures.1 c.insert-in-Some-of.ensures).0

pub returns-in-Some-of : goal.returns-in-Some-of
returns-in-Some-of c = (put_short c.self.inside.tiny c.self.inside.short c.self.inside.long c.args.key.now c.args.number c.insert-in-Some-of.result c.args.self.now c.self.view_is c.self.invariant c.insert-in-Some-of.new.self _ c.in-None.ensures c.in-Some-of.ensures.0 c.in-Some-of.ensures.1 c.insert-in-Some-of.ensures).1

pub invariant_of-self-in-None-of : goal.invariant_of-self-in-None-of
invariant_of-self-in-None-of c = (put_long c.self.inside.tiny c.self.inside.short c.self.inside.long c.args.key.now c.args.number c.insert-in-None-of.result c.args.self.now c.self.view_is c.self.invariant c.insert-in-None-of.new.self c.in-None.ensures c.in-None-of.ensures c.insert-in-None-of.ensures).0

pub returns-in-None-of : goal.returns-in-None-of
returns-in-None-of c = (put_long c.self.inside.tiny c.self.inside.short c.self.inside.long c.args.key.now c.args.number c.insert-in-None-of.result c.args.self.now c.self.view_is c.self.invariant c.insert-in-None-of.new.self c.in-None.ensures c.in-None-of.ensures c.insert-in-None-of.ensures).1
