use Rattle.std.proofs.Common.{◌∙◌}
use Rattle.index.proofs.Keyed.{got, got_some, found_by}
use Rattle.index.proofs.keyed_sets.KeyedSets.get.Goals as goal

pub returns-clause-members : goal.returns-clause-members
returns-clause-members g c = got g.K.StoredKey.bytes c.self.inside.sets c.args.self.now (g.Q.Wanted.wanted c.args.key) c.get.result (λ s. s.now) c.self.view_is
    (c.get.ensures.value ∙ found_by g.K.StoredKey.bytes (g.Q.Comparable.compare c.args.key) (g.Q.Wanted.wanted c.args.key) c.self.inside.sets (g.met.Q.Wanted.finds c.args.key))

pub returns-clause-some : goal.returns-clause-some
returns-clause-some g c = got_some g.K.StoredKey.bytes c.self.inside.sets c.args.self.now (g.Q.Wanted.wanted c.args.key) c.get.result (λ s. s.now) c.self.view_is
    (c.get.ensures.value ∙ found_by g.K.StoredKey.bytes (g.Q.Comparable.compare c.args.key) (g.Q.Wanted.wanted c.args.key) c.self.inside.sets (g.met.Q.Wanted.finds c.args.key)) c.self.invariant
