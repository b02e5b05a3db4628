use Rattle.std.proofs.Common.{◌≡◌, ◌+◌, ◌<◌, ◌^◌, length}
use Rattle.databases.specs.Found.{up_to, goes_past}
use Rattle.databases.proofs.found.count_found.Given as goal

abbrev pub invariant-loop : goal.invariant-loop
invariant-loop g l = record {
  entries : l.entries + length (up_to l.left l.iterator'.to_come) ≡ length (up_to l.fn.limit l.fn.hits.to_come);
  past : goes_past l.left l.iterator'.to_come ≡ goes_past l.fn.limit l.fn.hits.to_come;
  few : length (up_to l.fn.limit l.fn.hits.to_come) < 2 ^ 64;
}
