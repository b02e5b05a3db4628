use Rattle.std.proofs.Common.{refl, sym}
use Rattle.index.specs.inner.StoredSets.{sets_by}
use Rattle.index.proofs.Keyed.{seen, takes_alike}
use Rattle.index.proofs.keyed_sets.KeyedSets.remove.Goals as goal

pub returns : goal.returns
returns g c = takes_alike _ _ _ _ _ _ _ (λ q. sym (seen g.K.StoredKey.bytes c.self.inside.sets c.args.self.now c.self.view_is q)) (λ q. sym (seen g.K.StoredKey.bytes c.take.new.sets (sets_by g.K.StoredKey.bytes c.take.new.sets) refl q)) c.take.ensures.takes
