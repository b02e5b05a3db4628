use Rattle.std.proofs.Common.{sym, ap, ◌∙◌}
use Rattle.schema.specs.Conf.{Conf}
use Rattle.stored_index.proofs.KeptLaws.{kept_are}
use Rattle.stored_index.proofs.stored.StoredIndex.read_kept.Goals as goal

pub invariant_of-result : goal.invariant_of-result
invariant_of-result g c =
    let came = c.in_ok-rows.ensures.ok in
    let given = c.args.given in (
      c.in_ok-from_slice.ensures.items ∙ c.slots.ensures ∙ sym (ap (λ (conf : Conf). conf.slots) c.of.ensures),
      kept_are given.conf.now given.entries given.stamp.now came.text given.asked.now c.in_ok-rows.rows came.says,
    )
