use Rattle.std.proofs.Common.{◌<◌, length, subst, sym, ◌∙◌}
use Rattle.std.specs.List.{AllByRecursion}
use Rattle.schema.specs.declared.slots.Slot.{Slot}
use Rattle.dir_conf.proofs.SlotLines.{slots_good}
use Rattle.dir_conf.proofs.index_lines.kept_slots.Goals as goal

pub can_all_be_kept-requires : goal.can_all_be_kept-requires
can_all_be_kept-requires c =
    subst (AllByRecursion (λ (s : Slot). s.type_id < length c.args.types.now)) (sym (c.deref.ensures.value ∙ c.in_ok-slots.ensures))
    (slots_good (λ t. t < length c.args.types.now) c.args.ts.now c.args.kinds.now c.requires)
