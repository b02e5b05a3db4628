use Rattle.std.proofs.Common.{◌≡◌, ◌≤◌, ◌+◌, ◌*◌, drop}
use Rattle.dense_sets.proofs.Counts.{bits_in}
use Rattle.dense_sets.proofs.words.count.Given as goal

abbrev pub invariant-loop-word : goal.invariant-loop-word
invariant-loop-word l =
    record {
      few : l.ones ≤ 64 * l.word-index;
      counted : l.ones + bits_in (drop l.word-index l.words) ≡ bits_in l.words;
    }
