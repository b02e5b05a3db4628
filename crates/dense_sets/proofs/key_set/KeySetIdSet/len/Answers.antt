use Rattle.std.proofs.Common.{sym, ap, ◌∙◌}
use Rattle.std.specs.FinSet as set
use Rattle.dense_sets.specs.Keys.{Kept}
use Rattle.id_sets.proofs.Ascending.{len_ascending}
use Rattle.dense_sets.proofs.key_set.KeySetIdSet.len.Goals as goal

pub returns-in-List : goal.returns-in-List
returns-in-List c = sym (len_ascending c.in-List.ids.now c.in-List.ensures.ascending) ∙ ap (λ (k : Kept). set.len k.members) (c.in-List.ensures.same ∙ c.self.view_is)
