-- Entries that are walked over.
use Rattle.std.specs.Prelude.{◌≡◌, Some}
use Rattle.std.specs.FinMap as finite
use Rattle.paths.specs.Paths.{Path}
use Rattle.entries.specs.Entries.{EntryContent}
use Rattle.entries.specs.StoredEntries.{Entry, content_of}
use Rattle.tree.specs.Directories.{Entries}

abbrev pub seen_entry : Path × Entry → Path × EntryContent
seen_entry e = (e.0, content_of e.1)

-- an entry of a directory, as its tree stores it
abbrev pub IsThere : Entries → Path × Entry → Type 0
IsThere d e = finite.get d e.0 ≡ Some (content_of e.1)
