use Rattle.std.proofs.Common.{◌≡◌, ◌++◌, []}
use Rattle.std.specs.List.{flat_map}
use Rattle.index_keys.specs.EntryKeys.{windows}
use Rattle.index.proofs.entry_keys.next_window.Given as goal

abbrev pub invariant-loop-norm : goal.invariant-loop-norm
invariant-loop-norm l = record {
  none : windows l.text.now ≡ [];
  rest : windows l.fn.text.now ++ flat_map windows l.fn.norms ≡ flat_map windows l.norms;
}
