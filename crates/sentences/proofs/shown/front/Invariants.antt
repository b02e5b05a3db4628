use Rattle.std.proofs.Common.{◌≡◌, ◌≤◌, ◌-◌}
use Rattle.sentences.specs.Cuts.{begin_near}
use Rattle.sentences.proofs.shown.front.Given as goal

abbrev pub invariant-loop-passed : goal.invariant-loop-passed
invariant-loop-passed l = record {
  bounded : l.place ≤ l.most;
  same : begin_near (4 - l._passed) l.place l.bytes l.most ≡ begin_near 4 l.most l.bytes l.most;
}
