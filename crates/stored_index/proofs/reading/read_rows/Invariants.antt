use Rattle.std.proofs.Common.{◌≡◌, ◌-◌, ◌^◌}
use Rattle.stored_index.proofs.TextLemmas.{HasPulled}
use Rattle.stored_index.proofs.reading.read_rows.Given as goal

abbrev pub invariant-pulls : goal.invariant-pulls
invariant-pulls g l = record {
  pulled : HasPulled l.fn.given (g.S.Source.seen l.fn.source) (g.S.Source.seen l.source) l.draft l.held.items;
  failed : (g.S.Source.seen l.source).failed ≡ (g.S.Source.seen l.fn.source).failed;
}

abbrev pub decreases-pulls : goal.decreases-pulls
decreases-pulls g l = 2 ^ 64 - (g.S.Source.seen l.source).pulled
