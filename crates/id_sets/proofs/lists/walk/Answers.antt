use Rattle.std.proofs.Common.{◌∙◌, refl}
use Rattle.id_sets.proofs.Ascending.{list_ids}
use Rattle.id_sets.proofs.Ids.{ids_of_list}
use Rattle.id_sets.proofs.lists.walk.Goals as goal

pub returns-clause-list : goal.returns-clause-list
returns-clause-list c = c.of_list.ensures ∙ ids_of_list c.args.ids.now c.requires (list_ids c.args.ids.now _ refl (λ k. (c.type_inv.ids k).fits))
