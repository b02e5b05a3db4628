-- Entries, each with its number, and the keys that they have.
use Rattle.std.specs.Prelude.{ℕ, Bool, ◌&&◌, nat_eq, List}
use Rattle.std.specs.List.{list_any}
use Rattle.std.specs.FinSet as set
use Rattle.schema.specs.Conf.{Conf}
use Rattle.entries.specs.StoredEntries.{attributes_of}
use Rattle.index_text.specs.declared.slot_key.SlotKey.{SlotKey}
use Rattle.index_keys.specs.declared.type_norms.Numbered.{Numbered}
use Rattle.index_keys.specs.EntryKeys.{slot_keys}

-- whether one of these has the number and the key
abbrev pub has_among : Conf → List Numbered → ℕ → SlotKey → Bool
has_among conf es n k = list_any (λ e. nat_eq n e.number && set.contains (slot_keys conf (attributes_of e.entry.now.attrs)) k) es
