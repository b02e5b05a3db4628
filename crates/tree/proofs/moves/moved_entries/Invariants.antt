use Rattle.std.proofs.Common.{◌≡◌, ◌++◌, length, drop}
use Rattle.std.specs.Prelude.{vec_len, vec_capacity}
use Rattle.tree.specs.Changes.{moved_entries}
use Rattle.tree.proofs.moves.moved_entries.Given as goal

abbrev pub invariant-loop-path : goal.invariant-loop-path
invariant-loop-path l = record {
  led : l.led.items ++ moved_entries l.from l.to (drop l.path-index l.entries) ≡ moved_entries l.from l.to l.entries;
  len : vec_len l.led ≡ l.path-index;
  room : vec_capacity l.led ≡ length l.entries;
}
