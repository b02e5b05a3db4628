use Rattle.std.proofs.Common.{◌≡◌}
use Rattle.std.specs.List.{filter, range_with_len}
use Rattle.schema.specs.Subtypes.{is_subtype}
use Rattle.filter.proofs.prepare_item.subtypes.Given as goal

abbrev pub invariant-loop-number : goal.invariant-loop-number
invariant-loop-number l = l.found ≡ filter (λ u. is_subtype l.conf.types u l.t) (range_with_len 0 l.number)
