-- Which keys the entries with a number have, entry by entry.
use Rattle.std.specs.Prelude.{ℕ, Bool, ◌&&◌, nat_eq, List}
use Rattle.std.specs.List.{list_any}
use Rattle.std.specs.FinMap as finite
use Rattle.std.specs.FinSet as set
use Rattle.schema.specs.Conf.{Conf}
use Rattle.entries.specs.StoredEntries.{attributes_of}
use Rattle.tree.specs.Trees.{Tree, Placed, number_at}
use Rattle.index_text.specs.declared.slot_key.SlotKey.{SlotKey}
use Rattle.index_keys.specs.EntryKeys.{slot_keys}

-- whether one of these has the number and the key
abbrev pub has_placed : Conf → List Placed → ℕ → SlotKey → Bool
has_placed conf es n k = list_any (λ e. nat_eq n e.number && set.contains (slot_keys conf (attributes_of e.entry.attrs)) k) es

-- the same of the entries of a tree
abbrev pub has_in_tree : Conf → Tree → ℕ → SlotKey → Bool
has_in_tree conf t n k = list_any (λ e. nat_eq n (number_at t e.0) && set.contains (slot_keys conf e.1.attrs) k) (finite.entries t.entries)
