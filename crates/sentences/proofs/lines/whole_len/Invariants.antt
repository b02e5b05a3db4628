use Rattle.std.proofs.Common.{◌≡◌, ◌≤◌}
use Rattle.sentences.specs.Cuts.{whole_len}
use Rattle.sentences.proofs.lines.whole_len.Given as goal

abbrev pub invariant-loop-len : goal.invariant-loop-len
invariant-loop-len l = record {
  bounded : l.len ≤ l.most;
  same : whole_len l.text l.len ≡ whole_len l.text l.most;
}

abbrev pub decreases-loop-len : goal.decreases-loop-len
decreases-loop-len l = l.len
