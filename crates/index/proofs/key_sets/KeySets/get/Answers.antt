use Rattle.index.proofs.Keyed.{still_some}
use Rattle.index.proofs.Joined.{shown}
use Rattle.index.proofs.KeyForms.{tiny_members, short_members, long_members}
use Rattle.index.proofs.key_sets.KeySets.get.Goals as goal

pub returns-in-Some-clause-members : goal.returns-in-Some-clause-members
returns-in-Some-clause-members c = shown c.get.result (tiny_members c.self.inside.tiny c.self.inside.short c.self.inside.long c.args.key.now c.args.self.now c.self.view_is _ c.in-Some.ensures.0 c.in-Some.ensures.1) c.get.ensures.members

pub returns-in-Some-clause-some : goal.returns-in-Some-clause-some
returns-in-Some-clause-some c = still_some _ _ c.get.result (λ s. s.now.members) _ _ c.get.ensures.members c.get.ensures.some (shown c.get.result (tiny_members c.self.inside.tiny c.self.inside.short c.self.inside.long c.args.key.now c.args.self.now c.self.view_is _ c.in-Some.ensures.0 c.in-Some.ensures.1) c.get.ensures.members)

pub returns-in-Some-of-clause-members : goal.returns-in-Some-of-clause-members
returns-in-Some-of-clause-members c = shown c.get-in-Some-of.result (short_members c.self.inside.tiny c.self.inside.short c.self.inside.long c.args.key.now c.args.self.now c.self.view_is _ c.in-None.ensures c.in-Some-of.ensures.0 c.in-Some-of.ensures.1) c.get-in-Some-of.ensures.members

pub returns-in-Some-of-clause-some : goal.returns-in-Some-of-clause-some
returns-in-Some-of-clause-some c = still_some _ _ c.get-in-Some-of.result (λ s. s.now.members) _ _ c.get-in-Some-of.ensures.members c.get-in-Some-of.ensures.some (shown c.get-in-Some-of.result (short_members c.self.inside.tiny c.self.inside.short c.self.inside.long c.args.key.now c.args.self.now c.self.view_is _ c.in-None.ensures c.in-Some-of.ensures.0 c.in-Some-of.ensures.1) c.get-in-Some-of.ensures.members)

pub returns-in-None-of-clause-members : goal.returns-in-None-of-clause-members
returns-in-None-of-clause-members c = shown c.get-in-None-of.result (long_members c.self.inside.tiny c.self.inside.short c.self.inside.long c.args.key.now c.args.self.now c.self.view_is c.in-None.ensures c.in-None-of.ensures) c.get-in-None-of.ensures.members

pub returns-in-None-of-clause-some : goal.returns-in-None-of-clause-some
returns-in-None-of-clause-some c = still_some _ _ c.get-in-None-of.result (λ s. s.now.members) _ _ c.get-in-None-of.ensures.members c.get-in-None-of.ensures.some (shown c.get-in-None-of.result (long_members c.self.inside.tiny c.self.inside.short c.self.inside.long c.args.key.now c.args.self.now c.self.view_is c.in-None.ensures c.in-None-of.ensures) c.get-in-None-of.ensures.members)
