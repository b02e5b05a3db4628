use Rattle.std.proofs.Common.{List, length}
use Rattle.values.specs.declared.types.AttributeType.{AttributeType}
use Rattle.dir_conf.specs.Configurations.{Found}
use Rattle.dir_conf.proofs.Whole.{IsFound, found_is}
use Rattle.dir_conf.proofs.SlotLines.{known_bounds}
use Rattle.dir_conf.proofs.SuffixAndSlots.{both_found}
use Rattle.dir_conf.proofs.configuration.suffix_and_slots.Goals as goal

pub returns-in_ok-in_order-in-Some : goal.returns-in_ok-in_order-in-Some
returns-in_ok-in_order-in-Some c =
    let types : List AttributeType = c.args.types.now in
    let f : Found = record { suffix = c.in_ok-suffix.field-0.suffix; slots = c.in_ok-suffix.field-0.slots.items } in
    let found : IsFound types f = found_is (λ text n. (c.spelled_names_are_read.ensures.read text n).0) types c.args.lines.now f c.in_ok-suffix.ensures in
    both_found types c.args.lines.now f c.in-Some.suffix c.in_ok-in_order-in-Some.field-0 c.in_ok-suffix.ensures c.in-Some.is
    (c.in_ok-in_order-in-Some.ensures (length types) (known_bounds types f.slots found.slots))
