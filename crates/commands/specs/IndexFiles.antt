-- What index.txt says of a directory, and what a search finds by it.
use Rattle.std.specs.Prelude.{◌≡◌, ℕ, List, ◌++◌, Option, None, Some, Result, Ok, Err, codes}
use Rattle.std.specs.Option.{option_map}
use Rattle.std.specs.FinMap as finite
use Rattle.device.specs.Device.{Written, Took}
use Rattle.paths.specs.Paths.{Path}
use Rattle.schema.specs.Conf.{Conf}
use Rattle.entries.specs.Entries.{EntryContent}
use Rattle.tree.specs.Directories.{Entries}
use Rattle.filter_text.specs.Spells.{FilterContent}
use Rattle.filter.specs.Prepared.{prepared_filter}
use Rattle.candidates.specs.Sides.{sides}
use Rattle.paths.specs.declared.scope.Scope.{Scope}
use Rattle.databases.specs.Ranks.{rank_in}
use Rattle.databases.specs.Scanned.{scan, scan_among}
use Rattle.stored_index.specs.Faults.{fault_report}
use Rattle.stored_index.specs.Stored.{Stored, index_in, shown_by}
use Rattle.stored_index.specs.declared.fault.IndexFaultKind.{IndexFaultKind}
use Rattle.databases.specs.IndexTexts.{stamp}
use Rattle.folders.specs.Folders.{Files, Finds}
use Rattle.commands.specs.DirectoryFiles.{index_name}
use Rattle.commands.specs.Messages.{line_of}
use Rattle.commands.specs.Worlds.{World}

-- ---- what it says

-- nothing where there is no such file; else the index that its text writes, or what is wrong with that
abbrev pub Said : Type 0
Said = Option (Result Stored IndexFaultKind)

-- by the text of the file
abbrev pub said_by : Conf → Entries → Option (List ℕ) → Said
said_by conf d = option_map (index_in conf (finite.len d) (stamp conf d))

-- index.txt in this folder says this of a directory
pub record SaysOf (files : Option Files) (db : List ℕ) (conf : Conf) (d : Entries) (said : Said) : Type 0 where
  pub text : Option (List ℕ)
  pub there : Finds files (index_name db) (option_map (λ bytes. Some bytes) text)
  pub says : said ≡ said_by conf d text

-- ---- what is found

-- the entries in scope of which the filter is True; by an index, of those alone of which it may be True as that has it
abbrev pub found_by : Said → Conf → Entries → Path → Scope → FilterContent → List (Path × EntryContent)
found_by (Some (Ok stored)) conf d base scope f = scan_among conf d (λ p. (sides (shown_by stored) (rank_in d p) (prepared_filter conf.types f)).may) base scope f
found_by (Some (Err fault)) conf d base scope f = scan conf d base scope f
found_by None conf d base scope f = scan conf d base scope f

-- ---- what is reported of it

-- as `index.txt: I2 stale`
abbrev pub index_fault_text : IndexFaultKind → List ℕ
index_fault_text fault = codes "index.txt: " ++ fault_report fault

-- a fault is reported
abbrev pub ReportsFault : Said → Written → Written → Type 0
ReportsFault (Some (Err fault)) a b = Took a b (line_of (index_fault_text fault))
ReportsFault (Some (Ok stored)) a b = b ≡ a
ReportsFault None a b = b ≡ a

-- and nothing else changed
pub record IsFaultReported (said : Said) (w w' : World) : Type 0 where
  pub reports : ReportsFault said w.messages w'.messages
  pub stays : w' ≡ record w { messages = w'.messages }
