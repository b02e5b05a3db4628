use Rattle.std.proofs.Common.{◌≡◌, ◌||◌, drop}
use Rattle.std.specs.List.{list_any}
use Rattle.base.proofs.byte_tests.any_in.Given as goal

abbrev pub invariant-loop-b : goal.invariant-loop-b
invariant-loop-b g l = (l.found || list_any g.T.ByteTest.holds (drop l.b-index l.run)) ≡ list_any g.T.ByteTest.holds l.run
