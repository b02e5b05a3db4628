use Rattle.std.proofs.Common.{◌≡◌, drop, map}
use Rattle.checks.specs.NearNames.{nearest}
use Rattle.checks.proofs.near_names.nearest.Given as goal

abbrev pub invariant-loop-k : goal.invariant-loop-k
invariant-loop-k l = nearest (map (λ k. k.now) (drop l.k-index l.known)) l.fn.name ≡ nearest (map (λ k. k.now) l.fn.known) l.fn.name
