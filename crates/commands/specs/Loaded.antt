-- The directory that dir.conf and data.ldif in a folder stand for. Where the folder tells its files, the texts are theirs; where it
-- doesn't, as the system's, they are some texts.
use Rattle.std.specs.Prelude.{◌≡◌, ℕ, ◌⊎◌, List, [], ◌∷◌, Option, None, Some, Ok, Err, string_bytes}
use Rattle.std.specs.Option.{option_map}
use Rattle.std.specs.FinMap as finite
use Rattle.ldif_lines.specs.Records.{records}
use Rattle.schema.specs.Conf.{Conf}
use Rattle.dir_conf.specs.Configurations.{conf_of}
use Rattle.dir_conf.specs.declared.conf_fault.ConfFaultKind.{ConfFaultKind}
use Rattle.tree.specs.Directories.{Entries}
use Rattle.databases.specs.Runs.{LoadsRecords, Loads, loaded_after}
use Rattle.databases.specs.Folds.{Over}
use Rattle.databases.specs.declared.refusal.RecordRefusal.{RecordRefusal}
use Rattle.folders.specs.Folders.{Files, Finds}
use Rattle.commands.specs.DirectoryFiles.{conf_name, data_name}
use Rattle.commands.specs.Failures.{IsMemory}
use Rattle.commands.specs.declared.messages.CommandFault.{CommandFault}
use Rattle.commands.specs.declared.messages.CommandFault.TheVariants as faults

-- the text of this file says this configuration
pub record IsConfigured (files : Option Files) (name : List ℕ) (conf : Conf) : Type 0 where
  pub text : List ℕ
  pub there : Finds files name (Some (Some text))
  pub says : conf_of text ≡ Ok conf

-- no file is no entry; no record of a file is refused
abbrev pub LoadsFound : Conf → Option (Option (List ℕ)) → Entries → Type 0
LoadsFound conf None d = d ≡ finite.empty
LoadsFound conf (Some text) d = Over (option_map records text) (λ given. LoadsRecords conf finite.empty given d)

-- the configuration and the entries of the directory in this folder
pub record IsLoaded (files : Option Files) (db : List ℕ) (conf : Conf) (d : Entries) : Type 0 where
  pub configured : IsConfigured files (conf_name db) conf
  pub found : Option (Option (List ℕ))
  pub there : Finds files (data_name db) found
  pub loads : LoadsFound conf found d

-- this is the fault of the text of dir.conf, and its line
pub record ConfFails (files : Option Files) (db : List ℕ) (line : ℕ) (kind : ConfFaultKind) : Type 0 where
  pub text : List ℕ
  pub there : Finds files (conf_name db) (Some (Some text))
  pub says : conf_of text ≡ Err (line, kind)

-- the first record of data.ldif that is refused, by its line, and why
pub record DataFails (files : Option Files) (db : List ℕ) (line : ℕ) (why : RecordRefusal) : Type 0 where
  pub conf : Conf
  pub configured : IsConfigured files (conf_name db) conf
  pub text : Option (List ℕ)
  pub there : Finds files (data_name db) (Some text)
  pub refused : Over (option_map records text) (λ given. (loaded_after conf finite.empty given).refused ≡ (line, why) ∷ [])

-- data.ldif is what can't be read, and dir.conf says this configuration
pub record DataUnread (files : Option Files) (db : List ℕ) (name : List ℕ) : Type 0 where
  pub conf : Conf
  pub configured : IsConfigured files (conf_name db) conf
  pub name_is : name ≡ data_name db

-- Why no directory was loaded: a fault of one of its two files, or one that can't be read, or want of memory. dir.conf is looked at whole
-- before data.ldif is.
abbrev pub LoadFails : Option Files → List ℕ → CommandFault → Type 0
LoadFails files db (faults.Configuration line kind) = ConfFails files db line kind
LoadFails files db (faults.Data line why) = DataFails files db line why
LoadFails files db (faults.CannotRead name) = (string_bytes name ≡ conf_name db) ⊎ DataUnread files db (string_bytes name)
LoadFails files db fault = IsMemory fault

-- ---- over files that are known

abbrev pub LoadsFile : Conf → Option (List ℕ) → Entries → Type 0
LoadsFile conf None d = d ≡ finite.empty
LoadsFile conf (Some text) d = Loads conf text d

-- the configuration is that of dir.conf, the entries are those of data.ldif
pub record LoadsFiles (m : Files) (db : List ℕ) (conf : Conf) (d : Entries) : Type 0 where
  pub text : List ℕ
  pub there : finite.get m (conf_name db) ≡ Some text
  pub says : conf_of text ≡ Ok conf
  pub loads : LoadsFile conf (finite.get m (data_name db)) d
