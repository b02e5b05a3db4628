-- What the parts of a check have found.
use Rattle.std.specs.Prelude.{◌≡◌, ℕ, ◌<◌, List, [], ◌++◌, length, Option, Some, Ok, codes}
use Rattle.std.specs.List.{AllByRecursion}
use Rattle.std.specs.Option.{option_copied, option_map}
use Rattle.values.specs.declared.types.AttributeType.{AttributeType}
use Rattle.checks.specs.Reports.{refused_reports}
use Rattle.schema.specs.Conf.{Conf}
use Rattle.tree.specs.Directories.{Entries}
use Rattle.command_line.specs.declared.request.CheckOptions.{CheckOptions}
use Rattle.folders.specs.Folders.{Files, Finds}
use Rattle.commands.specs.DirectoryFiles.{data_name, index_name}
use Rattle.commands.specs.Checks.{types_asked, AddsFound, AddsOver, file_reports, index_reports}
use Rattle.commands.specs.Worlds.{World}
use Rattle.commands.specs.declared.check.CheckedTypes.{CheckedTypes}
use Rattle.commands.specs.declared.check.Told.{Told}

-- these are the types that the options name, and they are known
pub record AreTypesAsked (asked : CheckOptions) (types : List AttributeType) (c : CheckedTypes) : Type 0 where
  pub references : types_asked types (option_copied asked.references) ≡ Ok c.references.items
  pub unique : types_asked types (option_copied asked.unique) ≡ Ok c.unique.items
  pub known : AllByRecursion (λ t. t < length types) c.unique.items

-- the records of data.ldif in this folder leave these entries, and this is reported of those that are refused
pub record HasAdded (files : Option Files) (db : List ℕ) (conf : Conf) (d : Entries) (told : List ℕ) : Type 0 where
  pub found : Option (Option (List ℕ))
  pub there : Finds files (data_name db) found
  pub adds : AddsFound conf found d told

-- this is put behind a text of the file of this name, if it is there, against the index text of a directory
pub record ReportsIndex (files : Option Files) (name : List ℕ) (conf : Conf) (d : Entries) (before after : List ℕ) : Type 0 where
  pub index : Option (List ℕ)
  pub there : Finds files name (option_map (λ bytes. Some bytes) index)
  pub put : after ≡ before ++ index_reports conf d index

-- what is reported of what was told of data.ldif, of the file over it, if one is named, and of index.txt
abbrev pub told_reports : Option (List ℕ) → Told → List ℕ
told_reports file told = refused_reports (codes "data.ldif") told.loaded.items ++ (file_reports file told.over.items ++ told.index.items)

-- so the files in the folder were gone through, and the file over them, which leaves these entries
pub record HasGathered (asked : CheckOptions) (conf : Conf) (d : Entries) (told : Told) (w w' : World) : Type 0 where
  pub loaded : Entries
  pub adds : HasAdded w.files asked.db.now conf loaded told.loaded.items
  pub index : ReportsIndex w.files (index_name asked.db.now) conf loaded [] told.index.items
  pub over : AddsOver (option_copied asked.file) conf loaded d told.over.items w w'
