use Rattle.std.proofs.Common.{◌≡◌, ◌-◌, ◌^◌}
use Rattle.stored_index.proofs.FaultPulls.{HasGone}
use Rattle.stored_index.proofs.fault_lines.fault_with.Given as goal

abbrev pub invariant-pulls : goal.invariant-pulls
invariant-pulls g l = record {
  pulled : HasGone l.fn.given (g.S.Source.seen l.fn.source) (g.S.Source.seen l.source) l.draft l.held.items l.lines;
  failed : (g.S.Source.seen l.source).failed ≡ (g.S.Source.seen l.fn.source).failed;
}

abbrev pub decreases-pulls : goal.decreases-pulls
decreases-pulls g l = 2 ^ 64 - (g.S.Source.seen l.source).pulled
