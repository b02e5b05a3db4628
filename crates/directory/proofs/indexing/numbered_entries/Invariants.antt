use Rattle.std.proofs.Common.{◌≡◌, ◌||◌, ℕ}
use Rattle.std.specs.List.{AllByRecursion}
use Rattle.entries.specs.StoredEntries.{IsMade}
use Rattle.index_text.specs.declared.slot_key.SlotKey.{SlotKey}
use Rattle.index_keys.specs.NumberedEntries.{has_among}
use Rattle.directory.specs.inner.Indexes.{has_placed, has_in_tree}
use Rattle.directory.proofs.indexing.numbered_entries.Given as goal

abbrev pub invariant-loop-found : goal.invariant-loop-found
invariant-loop-found l = record {
  made : AllByRecursion (λ e. IsMade l.database.conf.types e.entry.attrs) l.found-iterator;
  taken : AllByRecursion (λ e. IsMade l.database.conf.types e.entry.now.attrs) l.entries.items;
  so_far : (n : ℕ) (k : SlotKey) → (has_among l.database.conf l.entries.items n k || has_placed l.database.conf l.found-iterator n k) ≡ has_in_tree l.database.conf l.database n k;
}
