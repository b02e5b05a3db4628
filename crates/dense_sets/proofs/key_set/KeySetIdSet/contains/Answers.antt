use Rattle.std.proofs.Common.{sym, ap, ◌∙◌}
use Rattle.std.specs.FinSet as set
use Rattle.std.specs.FinSet.{contains-from_list_nat}
use Rattle.dense_sets.specs.Keys.{Kept}
use Rattle.dense_sets.proofs.key_set.KeySetIdSet.contains.Goals as goal

pub returns-in-List : goal.returns-in-List
returns-in-List c =
    c.is_ok.ensures.value
    ∙ c.place_of.ensures.holds
    ∙ sym (contains-from_list_nat c.in-List.ids.now c.args.id)
    ∙ ap (λ (k : Kept). set.contains k.members c.args.id) (c.in-List.ensures.same ∙ c.self.view_is)
