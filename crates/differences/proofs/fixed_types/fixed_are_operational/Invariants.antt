use Rattle.std.proofs.Common.{◌≡◌, not, drop}
use Rattle.std.specs.Prelude.{◌||◌}
use Rattle.std.specs.List.{list_all}
use Rattle.differences.proofs.fixed_types.fixed_are_operational.Given as goal

abbrev pub invariant-loop-found : goal.invariant-loop-found
invariant-loop-found l = list_all (λ t. not t.is_fixed || t.is_operational) (drop l.found-index l.types) ≡ list_all (λ t. not t.is_fixed || t.is_operational) l.types
