use Rattle.std.proofs.Common.{refl, sym}
use Rattle.index.specs.inner.StoredSets.{sets_by}
use Rattle.index.proofs.Keyed.{seen, puts_alike}
use Rattle.index.proofs.keyed_sets.KeyedSets.insert.Goals as goal

pub returns : goal.returns
returns g c = puts_alike _ _ _ _ _ _ _ (λ q. sym (seen g.K.StoredKey.bytes c.self.inside.sets c.args.self.now c.self.view_is q)) (λ q. sym (seen g.K.StoredKey.bytes c.put.new.sets (sets_by g.K.StoredKey.bytes c.put.new.sets) refl q)) c.put.ensures.puts
