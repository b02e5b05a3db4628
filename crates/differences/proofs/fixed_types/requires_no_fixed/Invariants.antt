use Rattle.std.proofs.Common.{◌≡◌, not, drop}
use Rattle.std.specs.List.{list_all}
use Rattle.values.specs.Types.{type_at}
use Rattle.differences.proofs.fixed_types.requires_no_fixed.Given as goal

abbrev pub invariant-loop-t : goal.invariant-loop-t
invariant-loop-t l = list_all (λ t. not ((type_at l.conf.types t).is_fixed)) (drop l.t-index l.types) ≡ list_all (λ t. not ((type_at l.conf.types t).is_fixed)) l.types
