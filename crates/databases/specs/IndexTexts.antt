-- The text of a directory's index, from its entries alone.
use Rattle.std.specs.Prelude.{ℕ, ◌+◌, List, [], ◌∷◌, map, if◌then◌else◌}
use Rattle.std.specs.List.{flat_map}
use Rattle.std.specs.Cmp.Lexicographic.{slice_cmp}
use Rattle.std.specs.Ordering.{nat_cmp}
use Rattle.std.specs.FinMap as finite
use Rattle.sha2.specs.Sha256.{sha256}
use Rattle.values.specs.declared.types.AttributeType.{AttributeType}
use Rattle.schema.specs.declared.slots.Slot.{Slot}
use Rattle.schema.specs.Conf.{Conf}
use Rattle.entries.specs.Entries.{EntryContent}
use Rattle.tree.specs.Directories.{Entries}
use Rattle.index_keys.specs.EntryKeys.{entry_keys, has_key}
use Rattle.index_text.specs.IndexTexts.{Row, Rows, ended, header_line, key_line, slot_text}
use Rattle.index_text.specs.IndexTexts as texts
use Rattle.databases.specs.Runs.{dump}

-- the ranks of those of these entries that have a key under a slot; the first entry has this rank
abbrev pub ranks_with : List AttributeType → Slot → List ℕ → ℕ → List EntryContent → List ℕ
ranks_with types s key rank [] = []
ranks_with types s key rank (e ∷ es) = if has_key types e.attrs s.type_id s.kind key then rank ∷ ranks_with types s key (rank + 1) es else ranks_with types s key (rank + 1) es

-- each key that an entry has under a slot, by its bytes, with the ranks of the entries that have it
abbrev pub slot_rows : List AttributeType → List EntryContent → Slot → List Row
slot_rows types es s = finite.entries (finite.from_entries {R = slice_cmp nat_cmp} (map (λ key. (key, ranks_with types s key 0 es)) (flat_map (λ e. entry_keys types e.attrs s.type_id s.kind) es)))

-- in the order of the dump
abbrev pub contents : Entries → List EntryContent
contents d = map (λ e. e.1) (finite.entries d)

abbrev pub index_rows : Conf → Entries → Rows
index_rows conf d = map (λ s. (s, slot_rows conf.types (contents d) s)) conf.slots

-- the SHA-256 of the dump (FIPS 180-4)
abbrev pub stamp : Conf → Entries → List ℕ
stamp conf d = sha256 (dump conf d)

unfoldable pub index_text : Conf → Entries → List ℕ
index_text conf d = texts.index_text conf.types (finite.len d) (stamp conf d) (index_rows conf d)

-- ---- in pieces

abbrev pub first_line : Conf → Entries → List ℕ
first_line conf d = ended (header_line (finite.len d) (stamp conf d))

-- the keys of a slot as they are written
abbrev pub keys_lines : Conf → Entries → Slot → List ℕ
keys_lines conf d s = flat_map (λ row. ended (key_line row)) (slot_rows conf.types (contents d) s)

-- a slot as it is written
abbrev pub slot_lines : Conf → Entries → Slot → List ℕ
slot_lines conf d s = slot_text conf.types (s, slot_rows conf.types (contents d) s)

abbrev pub slots_lines : Conf → Entries → List Slot → List ℕ
slots_lines conf d ss = flat_map (slot_text conf.types) (map (λ s. (s, slot_rows conf.types (contents d) s)) ss)
