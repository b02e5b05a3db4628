use Rattle.std.proofs.Common.{◌≡◌, ◌≤◌, ◌++◌, length, take}
use Rattle.ldif.proofs.Blocks.{ArePlain}
use Rattle.ldif.proofs.modify.split_block.Given as goal

abbrev pub invariant-walk : goal.invariant-walk
invariant-walk l = record {
  parts : l.lines ≡ take l.len l.lines ++ l.rest;
  within : l.len ≤ length l.lines;
  plain : ArePlain (take l.len l.lines);
}

abbrev pub decreases-walk : goal.decreases-walk
decreases-walk l = length l.rest
