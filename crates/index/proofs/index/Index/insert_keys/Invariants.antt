use Rattle.std.proofs.Common.{◌≡◌, ◌+◌, ◌&&◌, nat_lt}
use Rattle.std.specs.FinSet as set
use Rattle.entries.specs.StoredEntries.{attributes_of}
use Rattle.index_keys.specs.EntryKeys.{slot_keys}
use Rattle.index.specs.Edits.{CountsEdits}
use Rattle.index.specs.Indexes.{Inserts}
use Rattle.index.specs.inner.Counts.{HaveNumber}
use Rattle.index.proofs.index.Index.insert_keys.Given as goal

abbrev pub invariant-loop-place : goal.invariant-loop-place
invariant-loop-place l = record {
  same_conf : l.self.conf ≡ l.fn.self.conf;
  came : Inserts (λ p. nat_lt p.slot.0 l.place && set.contains (slot_keys l.conf (attributes_of l.entry.attrs)) p) l.number l.fn.self l.self;
  counted : HaveNumber l.fn.self l.number 0 → HaveNumber l.self l.number l.count;
  all : CountsEdits l.fn.self l.self;
  edited : l.self.edits ≡ l.fn.self.edits + l.count;
}
