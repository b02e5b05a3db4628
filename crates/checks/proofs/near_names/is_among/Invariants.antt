use Rattle.std.proofs.Common.{◌≡◌, drop, map}
use Rattle.checks.specs.NearNames.{is_among}
use Rattle.checks.proofs.near_names.is_among.Given as goal

abbrev pub invariant-loop-k : goal.invariant-loop-k
invariant-loop-k l = is_among (map (λ k. k.now) (drop l.k-index l.known)) l.fn.oid ≡ is_among (map (λ k. k.now) l.fn.known) l.fn.oid
