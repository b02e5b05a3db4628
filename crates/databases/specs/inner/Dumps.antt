-- What is written of a dump, piece by piece, its lines folded to a width.
use Rattle.std.specs.Prelude.{◌≡◌, ℕ, ◌<◌, Some, List, [], ◌∷◌, ◌++◌, length, if◌then◌else◌}
use Rattle.std.specs.List.{flat_map, filter, AllByRecursion}
use Rattle.std.specs.FinMap as finite
use Rattle.std.specs.Borrow.{Bor}
use Rattle.base.specs.Ascii.{line_feed}
use Rattle.ldif.specs.Attrs.{Attr}
use Rattle.ldif.specs.Contents.{written_attr_to, write_content_to}
use Rattle.values.specs.declared.types.AttributeType.{AttributeType}
use Rattle.values.specs.Types.{name_of}
use Rattle.values.specs.Values.{Value}
use Rattle.paths.specs.Paths.{Path}
use Rattle.schema.specs.Conf.{Conf}
use Rattle.tree.specs.Directories.{Entries, record_at}
use Rattle.tree.specs.Trees.{Tree}
use Rattle.entries.specs.Entries.{lines_of}
use Rattle.entries.specs.StoredEntries.{Entry, EntryAttribute, content_of, attributes_of}
use Rattle.databases.specs.Selections.{Selection, selects, selected}

-- Of the bytes a beginning was heard, behind all that had been heard, and the rest is left.
abbrev pub HearsOn : {L : Type 0} → (L → List ℕ → Type 0) → L → L → List ℕ → List ℕ → Type 0
HearsOn heard before after bytes left = (m : List ℕ) → heard before m → (taken : List ℕ) × heard after taken × (taken ++ left ≡ m ++ bytes)

abbrev pub attr_of : List ℕ → Value → Attr
attr_of name v = record { name = name; value = v.raw }

-- the lines of values under one name
abbrev pub values_text : ℕ → List ℕ → List Value → List ℕ
values_text width name vs = flat_map (λ v. written_attr_to width (attr_of name v)) vs

-- the lines of attributes, and the empty line behind them
abbrev pub attributes_text : ℕ → List AttributeType → List EntryAttribute → List ℕ
attributes_text width types attrs = flat_map (written_attr_to width) (lines_of types (attributes_of attrs)) ++ line_feed ∷ []

-- the lines of an attribute, where it is selected
abbrev pub attribute_text : ℕ → List AttributeType → Selection → EntryAttribute → List ℕ
attribute_text width types s a = if selects s a.0 then values_text width (name_of types a.0) a.1 else []

-- the lines of those attributes that are selected, and the empty line behind them
abbrev pub selected_text : ℕ → List AttributeType → Selection → List EntryAttribute → List ℕ
selected_text width types s attrs = attributes_text width types (filter (λ a. selects s a.0) attrs)

abbrev pub entry_text : ℕ → Conf → Entries → Selection → Path × Entry → List ℕ
entry_text width conf d s e = write_content_to width (record_at conf d e.0 (selected s (content_of e.1)))

-- that of an entry of a tree
abbrev pub tree_entry_text : ℕ → Tree → Selection → Bor Path × Bor Entry → List ℕ
tree_entry_text width t s found = entry_text width t.conf t.entries s (found.0.now, found.1.now)

abbrev pub entries_text : ℕ → Conf → Entries → Selection → List (Path × Entry) → List ℕ
entries_text width conf d s es = flat_map (entry_text width conf d s) es

-- each is of a type that there is
abbrev pub AreKnown : List AttributeType → List EntryAttribute → Type 0
AreKnown types attrs = AllByRecursion (λ a. a.0 < length types) attrs

-- entries of a directory, as its tree stores them
abbrev pub IsThere : Entries → Path × Entry → Type 0
IsThere d e = finite.get d e.0 ≡ Some (content_of e.1)
