use Rattle.std.proofs.Common.{subst, ◌∙◌}
use Rattle.std.specs.Prelude.{IfOk}
use Rattle.std.specs.BTreeSet.{IsFromIterResult}
use Rattle.std.specs.declared.cmp.Ordering.{Ordering}
use Rattle.std.proofs.lemmas.Iterator.Adapters.{fact_from_collect, YieldsList-from_vec}
use Rattle.schema.specs.declared.slots.Slot.{Slot}
use Rattle.schema.specs.contracts.slots.SlotOrd.TheImpl as slot_ord
use Rattle.schema.proofs.SlotOrder.{derived_is}
use Rattle.dir_conf.proofs.slots.set_of.Goals as goal

pub returns : goal.returns
returns c =
    subst (λ (cmp : Slot → Slot → Ordering). IfOk c.collect.result (IsFromIterResult cmp c.args.said.items)) (λ j a b. derived_is a b j)
    (fact_from_collect (IsFromIterResult slot_ord.ghosts.cmp) c.collect.result c.collect.ensures.ran (YieldsList-from_vec c.args.said.items c.into_iter.ensures.rest (c.into_iter.ensures.len ∙ c.args.said.ok.0)))
