-- index.txt as the parts of a search have it.
use Rattle.std.specs.Prelude.{◌≡◌, ◌⊎◌, ℕ, List, Option, None, Some, Ok, Err, ⊤}
use Rattle.std.specs.Option.{option_copied}
use Rattle.device.specs.Device.{Written, Broke}
use Rattle.stored_index.specs.declared.fault.IndexFaultKind.{IndexFaultKind}
use Rattle.schema.specs.Conf.{Conf}
use Rattle.tree.specs.Directories.{Entries}
use Rattle.tree.specs.Trees.{Tree}
use Rattle.filter.specs.Made.{Made}
use Rattle.stored_index.specs.Stored.{Stored, shown_by}
use Rattle.databases.specs.IndexTexts.{index_text}
use Rattle.databases.specs.Searches.{ReflectsDump, ShowsIndexText, ShowsTo}
use Rattle.filter_text.specs.Spells.{view}
use Rattle.command_line.specs.declared.request.SearchOptions.{SearchOptions}
use Rattle.commands.specs.Asked.{IsFilter}
use Rattle.commands.specs.Failures.{IsMemory}
use Rattle.folders.specs.Folders.{Files}
use Rattle.commands.specs.IndexFiles.{Said, said_by, SaysOf, index_fault_text}
use Rattle.commands.specs.Loaded.{IsLoaded}
use Rattle.commands.specs.Messages.{line_of}
use Rattle.commands.specs.declared.index_file.IndexFile.{IndexFile}
use Rattle.commands.specs.declared.index_file.IndexFile.TheVariants as files
use Rattle.commands.specs.declared.messages.Stop.{Stop}
use Rattle.commands.specs.declared.messages.Stop.TheVariants as stops

-- where the text is that of the directory's own index, the index has the rank of each entry under exactly its keys
abbrev pub IsTrue : Conf → Entries → Said → Type 0
IsTrue conf d said = (x : Stored) → said ≡ Some (Ok x) → said ≡ said_by conf d (Some (index_text conf d)) → ReflectsDump (shown_by x) conf.types d

-- What is kept of it says this to a filter: of an index, a part that shows to the filter what the whole shows.
abbrev pub Says : Made → IndexFile → Said → Type 0
Says f files.Missing said = said ≡ None
Says f (files.Read part) said = (whole : Stored) × (said ≡ Some (Ok whole)) × ShowsTo f (shown_by part) (shown_by whole)
Says f (files.Faulty fault) said = said ≡ Some (Err fault)

-- and what that says of a tree is true
pub record Keeps (t : Tree) (f : Made) (file : IndexFile) (said : Said) : Type 0 where
  pub says : Says f file said
  pub is_true : IsTrue t.conf t.entries said

-- index.txt in this folder says this of a tree, and what is kept of it says so to a filter
pub record HasRead (files : Option Files) (db : List ℕ) (t : Tree) (f : Made) (file : IndexFile) : Type 0 where
  pub said : Said
  pub in_file : SaysOf files db t.conf t.entries said
  pub kept : Keeps t f file said

-- it says this, and is kept whole; what an index says of a tree is true
abbrev pub IsWhole : Tree → IndexFile → Said → Type 0
IsWhole t files.Missing said = said ≡ None
IsWhole t (files.Read whole) said = (said ≡ Some (Ok whole)) × IsTrue t.conf t.entries said
IsWhole t (files.Faulty fault) said = said ≡ Some (Err fault)

-- so it was read
pub record HasReadWhole (files : Option Files) (db : List ℕ) (t : Tree) (file : IndexFile) : Type 0 where
  pub said : Said
  pub in_file : SaysOf files db t.conf t.entries said
  pub kept : IsWhole t file said

-- there is no index, or it has a fault
abbrev pub IsNoIndex : Said → Type 0
IsNoIndex None = ⊤
IsNoIndex (Some (Ok whole)) = ⊥
IsNoIndex (Some (Err fault)) = ⊤

-- By an index every filter finds what it finds by what index.txt says: it is that whole, or the directory's own in place of one that is missing or at
-- fault. Without one that is what a scan finds.
abbrev pub Serves : Tree → Option Stored → Said → Type 0
Serves t None said = IsNoIndex said
Serves t (Some index) said = IsWhole t (files.Read index) said ⊎ (IsNoIndex said × ShowsIndexText (shown_by index) t.conf t.entries)

-- ---- what is reported of it

-- it says nothing, an index, or this fault, however much of it is kept
abbrev pub IsKindOf : IndexFile → Said → Type 0
IsKindOf files.Missing said = said ≡ None
IsKindOf (files.Read part) said = (whole : Stored) × (said ≡ Some (Ok whole))
IsKindOf (files.Faulty fault) said = said ≡ Some (Err fault)

-- the line of a fault was broken off; or memory ran out, and nothing was reported
abbrev pub FailsToReportFault : IndexFaultKind → Written → Written → Stop → Type 0
FailsToReportFault fault a b (stops.Fault f) = IsMemory f × (b ≡ a)
FailsToReportFault fault a b (stops.Usage text) = ⊥
FailsToReportFault fault a b stops.Messages = Broke a b (line_of (index_fault_text fault))

-- so it is where there is a fault to be reported
abbrev pub FailsToReport : Said → Written → Written → Stop → Type 0
FailsToReport (Some (Err fault)) a b why = FailsToReportFault fault a b why
FailsToReport (Some (Ok stored)) a b why = ⊥
FailsToReport None a b why = ⊥

-- ---- what a search has loaded

-- it is the filter that was asked for, prepared under the configuration of the directory, and that with what its index.txt says
pub record HasLoaded (asked : SearchOptions) (files : Option Files) (f : Made) (t : Tree) (file : IndexFile) : Type 0 where
  pub filter_is : IsFilter (option_copied asked.filter) (view f.filter)
  pub prepared : f.conf ≡ t.conf
  pub directory : IsLoaded files asked.db.now t.conf t.entries
  pub index : HasRead files asked.db.now t f file
