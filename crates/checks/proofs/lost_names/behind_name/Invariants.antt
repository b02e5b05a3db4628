use Rattle.std.proofs.Common.{◌≡◌, drop, map}
use Rattle.checks.specs.LostNames.{behind_name}
use Rattle.checks.proofs.lost_names.behind_name.Given as goal

abbrev pub invariant-loop-at : goal.invariant-loop-at
invariant-loop-at l = behind_name (map (λ p. p.now) (drop l.at l.pieces)) ≡ behind_name (map (λ p. p.now) l.pieces)
