use Rattle.std.proofs.Common.{◌≡◌, not, drop}
use Rattle.std.specs.List.{list_all}
use Rattle.values.specs.Types.{type_at}
use Rattle.differences.proofs.fixed_types.no_class_requires_fixed.Given as goal

abbrev pub invariant-loop-class : goal.invariant-loop-class
invariant-loop-class l = list_all (λ c. list_all (λ t. not ((type_at l.conf.types t).is_fixed)) c.must) (drop l.class-index l.classes) ≡ list_all (λ c. list_all (λ t. not ((type_at l.conf.types t).is_fixed)) c.must) l.classes
