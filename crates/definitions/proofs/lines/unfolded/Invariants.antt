use Rattle.std.proofs.Common.{◌≡◌, ◌+◌, drop, map}
use Rattle.definitions.specs.Lines.{numbered, unfolded}
use Rattle.definitions.proofs.Glued.{glued}
use Rattle.definitions.proofs.lines.unfolded.Given as goal

abbrev pub invariant-loop-i : goal.invariant-loop-i
invariant-loop-i l = glued l.lines.items (unfolded (numbered (l.i + 1) (map (λ x. x.now) (drop l.i l.stretches)))) ≡ unfolded (numbered 1 (map (λ x. x.now) l.stretches))
