use Rattle.std.proofs.Common.{◌≡◌, ◌∷◌, map, take}
use Rattle.checks.proofs.holders.copies.Given as goal

abbrev pub invariant-loop-path : goal.invariant-loop-path
invariant-loop-path l = l.paths ≡ l.first ∷ map (λ p. p.now) (take l.path-index l.others)
