-- The index that is kept with the entries of a directory, and what a change edits of it.
use Rattle.std.specs.Prelude.{◌≡◌, ℕ, false, Result, Ok, Err}
use Rattle.std.specs.FinSet as set
use Rattle.ldif.specs.declared.record.Mode.{Mode}
use Rattle.ldif.specs.declared.record.Record.{Record}
use Rattle.schema.specs.declared.code.Code.{Code}
use Rattle.schema.specs.Conf.{Conf}
use Rattle.entries.specs.Entries.{EntryContent}
use Rattle.tree.specs.Directories.{Entries}
use Rattle.tree.specs.Changes.{Change}
use Rattle.tree.specs.Plans.{entry_before, entry_after}
use Rattle.tree.specs.Operations.{change_of}
use Rattle.tree.specs.Trees.{Numbers, HasEntry}
use Rattle.index_text.specs.declared.slot_key.SlotKey.{SlotKey}
use Rattle.index_keys.specs.EntryKeys.{slot_keys, edits}
use Rattle.index_text.specs.Indexes.{Index, members}

-- The index has a number under a key exactly where the entry with that number has the key.
pub record IsIndexOf (conf : Conf) (d : Entries) (m : Numbers) (x : Index) : Type 0 where
  pub same_conf : x.conf ≡ conf
  pub has : (n : ℕ) (e : EntryContent) → HasEntry d m n e → (k : SlotKey) → set.contains (members x k) n ≡ set.contains (slot_keys conf e.attrs) k
  pub none : (n : ℕ) → ((e : EntryContent) → HasEntry d m n e → ⊥) → (k : SlotKey) → set.contains (members x k) n ≡ false

-- how many keys under slots it has either before or after, and not both
abbrev pub edits_of : Conf → Entries → Change → ℕ
edits_of conf d c = edits conf (entry_before d c) (entry_after d c)

-- those of a change that is carried out; what is refused edits nothing
abbrev pub edits_by : Conf → Entries → Result Change Code → ℕ
edits_by conf d (Ok c) = edits_of conf d c
edits_by conf d (Err code) = 0

-- those of a record
abbrev pub record_edits : Conf → Mode → Entries → Record → ℕ
record_edits conf mode d r = edits_by conf d (change_of conf mode d r)
