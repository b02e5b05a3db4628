use Rattle.std.proofs.Common.{◌≡◌, ◌++◌, drop, not}
use Rattle.std.specs.List.{filter}
use Rattle.schema.specs.Superclasses.{has_number}
use Rattle.sentences.proofs.lacked_types.left.Given as goal

abbrev pub invariant-loop-t : goal.invariant-loop-t
invariant-loop-t l =
    l.some.items ++ filter (λ t. not (has_number l.others t)) (drop l.t-index l.types) ≡ filter (λ t. not (has_number l.others t)) l.types
