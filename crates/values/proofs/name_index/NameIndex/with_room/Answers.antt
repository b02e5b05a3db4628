use Rattle.std.proofs.Common.{rules, ◌<◌, length}
use Rattle.values.proofs.Buckets.{none_there}
use Rattle.values.proofs.name_index.NameIndex.with_room.Goals as goal

pub invariant_of-result : goal.invariant_of-result
invariant_of-result c =
    let some : 0 < length c.in_ok-empty_buckets.field-0.items = search rules in
    none_there c.new.result.items c.in_ok-empty_buckets.field-0.items c.new.ensures.items some c.in_ok-empty_buckets.ensures.none
