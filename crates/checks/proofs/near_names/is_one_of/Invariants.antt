use Rattle.std.proofs.Common.{◌≡◌, drop, map}
use Rattle.checks.specs.NearNames.{is_one_of}
use Rattle.checks.proofs.near_names.is_one_of.Given as goal

abbrev pub invariant-loop-k : goal.invariant-loop-k
invariant-loop-k l = is_one_of (map (λ k. k.now) (drop l.k-index l.known)) l.fn.name ≡ is_one_of (map (λ k. k.now) l.fn.known) l.fn.name
