use Rattle.std.proofs.Common.{◌≡◌, ◌≤◌, ◌-◌, ◌++◌, false, None, drop, length}
use Rattle.server_schema.specs.Growth.{Grows, AreRefused, AreAmong, definitions_of_all}
use Rattle.server_schema.proofs.taking.pass.Given as goal

abbrev pub invariant-candidates : goal.invariant-candidates
invariant-candidates l =
    (l.at ≤ length l.candidates)
    × Grows l.fn.text.items (definitions_of_all l.candidates) l.text.items (definitions_of_all l.left.items ++ definitions_of_all (drop l.at l.candidates)) false
    × (l.only ≡ None → l.grew ≡ false → (l.text.items ≡ l.fn.text.items) × AreRefused l.text.items (definitions_of_all l.left.items))
    × AreAmong l.left.items l.candidates

abbrev pub decreases-candidates : goal.decreases-candidates
decreases-candidates l = length l.candidates - l.at
