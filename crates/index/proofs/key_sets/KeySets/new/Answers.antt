use Rattle.std.proofs.Common.{sym, subst, ap, ◌∙◌}
use Rattle.std.specs.FinMap as finite
use Rattle.index_text.specs.KeySets.{SetsByKey}
use Rattle.index.specs.inner.JoinedSets.{joined, AreApart}
use Rattle.index.specs.inner.ShortKeys.{fits}
use Rattle.index.proofs.Joined.{apart_none, none_joined}
use Rattle.index.proofs.key_sets.KeySets.new.Goals as goal

pub invariant_of-result : goal.invariant_of-result
invariant_of-result c = (
  subst (λ (m : SetsByKey). AreApart (fits 4) m (joined (fits 32) c.new-2.result c.new-3.result)) (sym c.new.ensures) (subst (AreApart (fits 4) finite.empty) (sym ((λ i. joined (fits 32) (c.new-2.ensures i) (c.new-3.ensures i)) ∙ none_joined (fits 32))) (apart_none (fits 4))),
  subst (λ (m : SetsByKey). AreApart (fits 32) m c.new-3.result) (sym c.new-2.ensures) (subst (AreApart (fits 32) finite.empty) (sym c.new-3.ensures) (apart_none (fits 32))),
)

pub returns : goal.returns
returns c = (λ i. joined (fits 4) (c.new.ensures i) (joined (fits 32) (c.new-2.ensures i) (c.new-3.ensures i))) ∙ ap (joined (fits 4) finite.empty) (none_joined (fits 32)) ∙ none_joined (fits 4)
