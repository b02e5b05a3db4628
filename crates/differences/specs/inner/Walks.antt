-- The text of the changes between two directories, entry by entry.
use Rattle.std.specs.Prelude.{ℕ, not, ◌&&◌, List, map, reverse, Some}
use Rattle.std.specs.List.{filter, flat_map}
use Rattle.std.specs.FinMap as finite
use Rattle.std.specs.Borrow.{Bor}
use Rattle.ldif.specs.declared.record.Record.{Record}
use Rattle.paths.specs.Paths.{Path}
use Rattle.schema.specs.Conf.{Conf}
use Rattle.entries.specs.Entries.{EntryContent}
use Rattle.entries.specs.StoredEntries.{Entry, content_of, attributes_of}
use Rattle.tree.specs.Directories.{Entries}
use Rattle.differences.specs.EntryChanges.{mods_between}
use Rattle.differences.specs.Differences.{Extent, aimed, same_spelling, respelling, respellings, modifying, removing, changes_of}
use Rattle.differences.specs.Comparisons.{extent_of}
use Rattle.differences.specs.Comments.{change_text}
use Rattle.differences.specs.Texts.{difference}
use Rattle.differences.specs.declared.differ.Differ.{Differ}

abbrev pub changes_text : List Record → List ℕ
changes_text rs = flat_map change_text rs

-- ---- at one path

-- by the entry before, and what is to be there
abbrev pub respellings_at : Conf → Entries → Path → Entry → EntryContent → List Record
respellings_at conf a p before e = respellings (same_spelling before.rdn e.rdn) (respelling conf a p e.rdn)

abbrev pub modifies_at : Conf → Entries → Path → Entry → EntryContent → List Record
modifies_at conf b p before e = modifying conf b p (mods_between conf.types (attributes_of before.attrs) e.attrs)

-- what is to be done where the second directory has an entry
abbrev pub changes_by : Conf → Extent → Entries → Entries → Path × Entry → List Record
changes_by conf c a b e = changes_of conf c a b (e.0, content_of e.1)

-- ---- at several paths

abbrev pub path_of : Path × EntryContent → Path
path_of e = e.0

-- the paths of those entries that the second directory hasn't, where they are compared
abbrev pub gone_of : Extent → Entries → List (Path × EntryContent) → List Path
gone_of c b es = map path_of (filter (λ x. c.has x.0 && not (finite.contains_key b x.0)) es)

-- the paths of the entries that go, in the order of paths
abbrev pub paths_gone : Extent → Entries → Entries → List Path
paths_gone c a b = gone_of c b (finite.entries a)

-- the deletes of the entries at these paths, the last path first
abbrev pub removals : Conf → Entries → List Path → List Record
removals conf a ps = map (removing conf a) (reverse ps)

abbrev pub all_changes_by : Conf → Extent → Entries → Entries → List (Path × Entry) → List Record
all_changes_by conf c a b es = flat_map (changes_by conf c a b) es

-- what is to be done where the second directory has entries
abbrev pub changes_ahead : Conf → Extent → Entries → Entries → List Record
changes_ahead conf c a b = flat_map (changes_of conf c a b) (finite.entries b)

-- ---- paths that are lent

abbrev pub lent_paths : List (Bor Path) → List Path
lent_paths ps = map (λ p. p.now) ps

-- ---- between the two directories that are walked over

abbrev pub extent_in : Differ → Extent
extent_in d = extent_of d.comparison.now d.conf.now d.before.now.entries d.after.now.entries

-- where the second has an entry, and at all of its entries
abbrev pub changes_in : Differ → Path × Entry → List Record
changes_in d e = changes_by d.conf.now (extent_in d) d.before.now.entries d.after.now.entries e

abbrev pub all_changes_in : Differ → List (Path × Entry) → List Record
all_changes_in d es = all_changes_by d.conf.now (extent_in d) d.before.now.entries d.after.now.entries es

abbrev pub ahead_in : Differ → List Record
ahead_in d = changes_ahead d.conf.now (extent_in d) d.before.now.entries d.after.now.entries

abbrev pub gone_in : Differ → List Path
gone_in d = paths_gone (extent_in d) d.before.now.entries d.after.now.entries

-- the entry that is to be where there is one before, and the second directory has this one
abbrev pub settled_in : Differ → Entry → Entry → EntryContent
settled_in d before after = aimed d.comparison.now.unordered d.conf.now.types (Some (content_of before)) (content_of after)

abbrev pub written_in : Differ → List ℕ
written_in d = difference d.conf.now (extent_in d) d.before.now.entries d.after.now.entries
