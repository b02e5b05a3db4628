use Rattle.std.proofs.Common.{◌≡◌, ◌<◌, ◌^◌, drop}
use Rattle.stored_index.specs.Words.{number_after}
use Rattle.stored_index.proofs.numbers.number_of.Given as goal

abbrev pub invariant-loop-digit : goal.invariant-loop-digit
invariant-loop-digit l = record {
  same : number_after l.number (drop l.digit-index l.word) ≡ number_after 0 l.word;
  small : l.number < 10 ^ l.digit-index;
}
