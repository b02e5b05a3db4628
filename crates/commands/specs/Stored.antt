-- The files that a directory is kept in, beside dir.conf, and how they are stored.
use Rattle.std.specs.Prelude.{◌≡◌, ℕ, ◌⊎◌, List, [], ◌∷◌, ◌++◌}
use Rattle.schema.specs.Conf.{Conf}
use Rattle.tree.specs.Directories.{Entries}
use Rattle.databases.specs.Runs.{dump}
use Rattle.databases.specs.IndexTexts.{index_text}
use Rattle.folders.specs.Folders.{File}
use Rattle.commands.specs.DirectoryFiles.{data_name, index_name}
use Rattle.commands.specs.Worlds.{World}
use Rattle.commands.specs.Endings.{StoppedAt, IsFault}
use Rattle.commands.specs.Failures.{FailsToWrite, NamesUnwritten}
use Rattle.commands.specs.declared.messages.CommandFault.{CommandFault}

-- data.ldif is the dump of the entries
abbrev pub data_file : List ℕ → Conf → Entries → File
data_file db conf d = record { name = data_name db; text = dump conf d }

-- index.txt is the text of their index
abbrev pub index_file : List ℕ → Conf → Entries → File
index_file db conf d = record { name = index_name db; text = index_text conf d }

-- in the order in which they are stored
abbrev pub kept_files : List ℕ → Conf → Entries → List File
kept_files db conf d = data_file db conf d ∷ index_file db conf d ∷ []

-- ---- where they aren't stored

-- one of these files can't be written, or memory ran out: none of them was stored
pub record IsNotDrafted (files stored : List File) (fault : CommandFault) : Type 0 where
  pub before : List File
  pub file : File
  pub rest : List File
  pub files_are : files ≡ before ++ file ∷ rest
  pub why : FailsToWrite file.name fault
  pub none : stored ≡ []

-- All were written whole beside their places, and then this one couldn't be put there, and is named: those before it are stored.
pub record IsNotPublished (files stored : List File) (fault : CommandFault) : Type 0 where
  pub file : File
  pub rest : List File
  pub files_are : files ≡ stored ++ file ∷ rest
  pub why : NamesUnwritten file.name fault

abbrev pub StoreFails : List File → List File → CommandFault → Type 0
StoreFails files stored fault = IsNotDrafted files stored fault ⊎ IsNotPublished files stored fault

-- these files were to be stored, and that failed so; nothing but files changed
pub record FailsToStore (files : List File) (w : World) (at : StoppedAt) : Type 0 where
  pub why : IsFault (StoreFails files at.stored) at.why
  pub stays : at.world ≡ record w { files = at.world.files }
