use Rattle.std.proofs.Common.{◌≡◌, ◌++◌, drop}
use Rattle.matching.specs.Forms.{tidy}
use Rattle.matching.proofs.GapLoop.{adds}
use Rattle.matching.proofs.normal.tidy_text.Given as goal

-- what is written, and what the rest adds, is the whole
abbrev pub invariant-loop-b : goal.invariant-loop-b
invariant-loop-b l = l.out.items ++ adds l.out.items l.gap (drop l.b-index l.bytes) ≡ tidy l.bytes
