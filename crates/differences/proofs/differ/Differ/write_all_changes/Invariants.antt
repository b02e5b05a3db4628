use Rattle.std.proofs.Common.{◌≡◌, ◌++◌}
use Rattle.std.specs.Prelude.{◌||◌}
use Rattle.std.specs.List.{AllByRecursion}
use Rattle.ldif.specs.Written.{SoFar}
use Rattle.entries.specs.StoredEntries.{IsMade}
use Rattle.databases.specs.inner.Dumps.{IsThere}
use Rattle.differences.specs.Differences.{is_some_change}
use Rattle.differences.specs.inner.Walks.{changes_text, all_changes_in, ahead_in}
use Rattle.differences.proofs.differ.Differ.write_all_changes.Given as goal

abbrev pub invariant-loop-found : goal.invariant-loop-found
invariant-loop-found g l = record {
  failures : (g.W.Sink.written l.sink).failed ≡ (g.W.Sink.written l.fn.sink).failed;
  names : l.names ≡ l.self.after.now;
  made : AllByRecursion (λ e. IsMade l.self.conf.now.types e.1.attrs) l.found-iterator;
  there : AllByRecursion (IsThere l.self.after.now.entries) l.found-iterator;
  some : l.some || is_some_change (all_changes_in l.self l.found-iterator) ≡ is_some_change (ahead_in l.self);
  so_far : SoFar (g.W.Sink.written l.fn.sink) (g.W.Sink.written l.sink)
      (l.fn.text.items ++ changes_text (ahead_in l.self)) (l.text.items ++ changes_text (all_changes_in l.self l.found-iterator));
}
