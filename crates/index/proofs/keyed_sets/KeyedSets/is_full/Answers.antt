use Rattle.std.proofs.Common.{sym, ◌∙◌}
use Rattle.index.proofs.Keyed.{get_is}
use Rattle.index.proofs.keyed_sets.KeyedSets.is_full.Goals as goal

pub returns : goal.returns
returns g c = record { full = λ key is. c.self.invariant key (sym (get_is g.K.StoredKey.bytes c.self.inside.sets c.args.self.now c.self.view_is key) ∙ is) }
