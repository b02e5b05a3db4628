use Rattle.std.proofs.Common.{◌≡◌}
use Rattle.std.specs.Option.{option_map}
use Rattle.dn.proofs.Steps.{names, names_in}
use Rattle.base.proofs.Each.{with_front}
use Rattle.dn.proofs.Loop.{size}
use Rattle.dn.proofs.read.rdns_of.Given as goal

abbrev pub invariant-loop-rest : goal.invariant-loop-rest
invariant-loop-rest l = with_front l.name (names_in (option_map (λ s. s.now) l.rest)) ≡ names l.text

abbrev pub decreases-loop-rest : goal.decreases-loop-rest
decreases-loop-rest l = size (option_map (λ s. s.now) l.rest)
