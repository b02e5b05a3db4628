use Rattle.std.proofs.Common.{refl, sym, ap, ◌∙◌}
use Rattle.std.specs.FinSet as set
use Rattle.index_text.specs.KeySets.{Members}
use Rattle.index.specs.inner.StoredSets.{sets_by}
use Rattle.index.proofs.Keyed.{seen}
use Rattle.index.proofs.keyed_sets.KeyedSets.forget.Goals as goal

pub returns : goal.returns
returns g c q = seen g.K.StoredKey.bytes c.forget_in.new.sets (sets_by g.K.StoredKey.bytes c.forget_in.new.sets) refl q ∙ c.forget_in.ensures.members q ∙ ap (λ (s : Members). set.remove s c.args.number) (sym (seen g.K.StoredKey.bytes c.self.inside.sets c.args.self.now c.self.view_is q))
