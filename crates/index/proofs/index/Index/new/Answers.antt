use Rattle.std.proofs.Common.{◌∙◌, List, get_or, ap}
use Rattle.std.specs.FinMap as finite
use Rattle.std.proofs.lemmas.Result.{IfOk-weaker}
use Rattle.index_text.specs.KeySets.{SetsByKey, members_in}
use Rattle.index.proofs.Keyed.{all_empty}
use Rattle.index.proofs.index.Index.new.Goals as goal

pub returns-clause-empty : goal.returns-clause-empty
returns-clause-empty c = IfOk-weaker c.of_sets.result _ _ (λ x is p. ap (λ (slots : List SetsByKey). members_in (get_or slots p.slot.0 finite.empty) p.key) is ∙ all_empty c.in_ok-sets.sets.items c.in_ok-sets.ensures.empty p.slot.0 p.key) c.of_sets.ensures.slots
